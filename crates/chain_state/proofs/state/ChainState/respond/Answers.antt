use Rattle.std.proofs.Common.{◌≡◌, true, refl, sym, ap, ◌∙◌, subst}
use Rattle.std.specs.Prelude.{Some, Option}
use Rattle.std.specs.Option.{option_copied, option_map_or}
use Rattle.locations.specs.declared.relative.Location.{Location}
use Rattle.channel_parts.specs.declared.cargo.Cargo.{Cargo}
use Rattle.exec_base.specs.Answers.{AnswersOrRefuses}
use Rattle.exec_base.specs.Sending.{IsForwardable, send_refusal, number_to, sent}
use Rattle.exec_base.specs.Host.{querier_seen, report_program, report_refusal, respond_refusal, responded}
use Rattle.chain_state.specs.PartOf.{part_of}
use Rattle.chain_state.proofs.Reported.{report_forwardable}
use Rattle.chain_state.proofs.state.ChainState.respond.Goals as goal

pub returns-in_default : goal.returns-in_default
unfolding respond_refusal
returns-in_default c =
    let p = part_of c.args.self.now in
    record { step = (ap (report_refusal p c.args.to.now c.args.response) (sym c.seen_querier.ensures ∙ c.in_default.is), refl) }

pub send_to-requires : goal.send_to-requires
send_to-requires c =
    record { forwardable = subst IsForwardable (sym c.in_ok-program.ensures) (report_forwardable c.args.to.now c.args.response (option_copied c.args.querier) c.in-Some.querier c.requires.forwardable) }

pub returns : goal.returns
unfolding respond_refusal responded
returns c =
    let p = part_of c.args.self.now in
    let info = c.args.to.now in
    let dest = info.destination in
    let seen : querier_seen p dest (option_copied c.args.querier) ≡ Some c.in-Some.querier = sym c.seen_querier.ensures ∙ c.in-Some.is in
    let program = c.in_ok-program.ensures in
    let refusal : send_refusal p dest true c.in_ok-program.program ≡ report_refusal p info c.args.response (querier_seen p dest (option_copied c.args.querier)) =
    ap (send_refusal p dest true) program ∙ sym (ap (report_refusal p info c.args.response) seen) in
    let after = ap (λ xcm. sent p dest xcm Cargo.Nothing) program
    ∙ sym (ap (λ o. option_map_or (λ (querier : Option Location). sent p dest (report_program info c.args.response querier) Cargo.Nothing) o p) seen) in
    record {
      step = subst (λ x. AnswersOrRefuses x (number_to p dest) (responded p info c.args.response (option_copied c.args.querier)) p c.send_to.result (part_of c.send_to.new.self)) refusal
          (subst (λ x. AnswersOrRefuses (send_refusal p dest true c.in_ok-program.program) (number_to p dest) x p c.send_to.result (part_of c.send_to.new.self)) after c.send_to.ensures.step);
    }
