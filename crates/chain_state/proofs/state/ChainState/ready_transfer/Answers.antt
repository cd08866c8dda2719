use Rattle.std.proofs.Common.{sym, ap, ◌∙◌, subst}
use Rattle.exec_base.specs.Sending.{deposit_program, listed_refusal, listed_program}
use Rattle.exec_base.specs.Host.{seen_from}
use Rattle.chain_state.specs.PartOf.{part_of}
use Rattle.chain_state.specs.Sends.{IsAcceptedByChannel, IsSendFault}
use Rattle.chain_state.proofs.state.ChainState.ready_transfer.Goals as goal

pub returns-in-Err : goal.returns-in-Err
returns-in-Err c =
    let p = part_of c.args.self.now in
    let dest = c.args.dest.now in
    record { ready = subst (λ xs. IsSendFault (listed_refusal p dest (λ a. deposit_program a c.args.xcm.now) (seen_from p dest xs)) c.in-Err.fault) c.items.ensures.value c.in-Err.ensures.ready }

pub returns : goal.returns
returns c =
    let p = part_of c.args.self.now in
    let dest = c.args.dest.now in
    let xcm = c.args.xcm.now in
    let again = c.items.ensures.value in
    record {
      ready = (
        subst (λ xs. IsAcceptedByChannel p dest (listed_program (λ a. deposit_program a xcm) (seen_from p dest xs)) c.in-Ok.ready.0 c.in-Ok.ready.1.items) again c.in-Ok.ensures.ready.0,
        ap (λ xs. listed_refusal p dest (λ a. deposit_program a xcm) (seen_from p dest xs)) (sym again) ∙ c.in-Ok.ensures.ready.1,
        c.in_ok-cargo.ensures,
      );
    }
