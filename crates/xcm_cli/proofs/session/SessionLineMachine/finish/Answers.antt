use Rattle.std.proofs.Common.{◌≡◌, ◌∙◌, ◌⊎◌, inl, inr, sym, ap, refl, [], Ok, Some, List, ℕ, true}
use Rattle.network_config.specs.Network.{network_of}
use Rattle.chain_net.specs.Nets.{world_of, spec_of}
use Rattle.xcm_cli.specs.Report.{network_reply, steps_reply}
use Rattle.xcm_cli.specs.Session.{reply_at}
use Rattle.xcm_cli.specs.declared.phase.Opened.TheVariants.{Runs, Over}
use Rattle.line_serving.specs.declared.status.Status.TheVariants.{NetworkRefused, WriteFault}
use Rattle.xcm_cli.proofs.Advance.{at_end, part_within, finishes_steps, finishes_some, finishes_none, opens_runs, opens_over, over_status}
use Rattle.xcm_cli.proofs.session.SessionLineMachine.finish.Goals as goal

pub returns-in-Steps-clause-run : goal.returns-in-Steps-clause-run
returns-in-Steps-clause-run g c = finishes_steps _ _ _ _ c.in-Steps.is

pub returns-in-Ok-Over-clause-run : goal.returns-in-Ok-Over-clause-run
returns-in-Ok-Over-clause-run g c =
    let before = network_reply c.args.self.now.audit (network_of c.deref.result.now) c.args.self.now.lines c.args.self.now.taken in
    let whole : reply_at c.args.self.now true [] ≡ before [] =
    at_end _ _ c.in-Network.is (part_within _ _ c.in-Network.is c.requires) ∙ ap (λ p. network_reply c.args.self.now.audit (network_of p) c.args.self.now.lines c.args.self.now.taken []) (sym c.deref.ensures.value) in
    let is : c.opened.result ≡ Ok (Over c.in-Ok-Over.status) = c.in-Ok-Over.is ∙ ap Ok c.in-Ok-Over.field-0-is in
    let status : (c.in-Ok-Over.status ≡ NetworkRefused) ⊎ (c.in-Ok-Over.status ≡ WriteFault) = over_status _ _ _ _ _ c.opened.ensures.opened is in
    finishes_some _ before before _ _ _ (Ok (Some c.in-Ok-Over.status)) refl whole
    (λ e. elim status [ inl h ↦ cc | inr h ↦ cc ])
    (λ e. elim status [ inl h ↦ cc | inr h ↦ cc ])
    (opens_over _ _ _ _ _ c.opened.ensures.opened (λ (lines : List (List ℕ)). lines) _ _ before before (λ lines. refl) [] _ is)

pub returns-in-Ok-Runs-clause-run : goal.returns-in-Ok-Runs-clause-run
returns-in-Ok-Runs-clause-run g c =
    let before = network_reply c.args.self.now.audit (network_of c.deref.result.now) c.args.self.now.lines c.args.self.now.taken in
    let whole : reply_at c.args.self.now true [] ≡ before [] =
    at_end _ _ c.in-Network.is (part_within _ _ c.in-Network.is c.requires) ∙ ap (λ p. network_reply c.args.self.now.audit (network_of p) c.args.self.now.lines c.args.self.now.taken []) (sym c.deref.ensures.value) in
    let is : c.opened.result ≡ Ok (Runs c.in-Ok-Runs.field-0-0) = c.in-Ok-Runs.is ∙ ap Ok c.in-Ok-Runs.field-0-is in
    let after = steps_reply c.args.self.now.audit (spec_of c.in-Ok-Runs.field-0-0) (world_of c.in-Ok-Runs.field-0-0) 0 c.args.self.now.lines c.args.self.now.taken in
    finishes_none _ before _ _ _ _ _ _ [] _ _ _ refl whole
    (opens_runs _ _ _ _ _ c.opened.ensures.opened (λ (lines : List (List ℕ)). lines) _ _ before after (λ lines. refl) _ [] is (λ lines. refl))
