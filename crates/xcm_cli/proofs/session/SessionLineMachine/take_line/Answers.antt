use Rattle.std.proofs.Common.{◌≡◌, ◌∙◌, ◌+◌, sym, ap, refl, arith, true, false, length, [], Bool, List, ℕ, Ok}
use Rattle.input_lines.specs.Lines.{ends_network}
use Rattle.network_config.specs.Network.{network_of}
use Rattle.xcm_cli.specs.Report.{network_reply}
use Rattle.input_lines.proofs.Lemmas.{mark_short}
use Rattle.xcm_cli.specs.declared.phase.Opened.TheVariants.{Runs, Over}
use Rattle.line_serving.proofs.Lemmas.{stays, stops, advances_as}
use Rattle.xcm_cli.specs.Laws.{at_steps}
use Rattle.xcm_cli.proofs.Advance.{line_kept, line_over, line_ends, part_within, ready_steps, opens_runs, opens_over}
use Rattle.xcm_cli.proofs.session.SessionLineMachine.take_line.Goals as goal

pub returns-then-len-line-gt-MAX_NETWORK-clause-run : goal.returns-then-len-line-gt-MAX_NETWORK-clause-run
returns-then-len-line-gt-MAX_NETWORK-clause-run g c =
    let mark : ends_network c.args.line.now ≡ false = sym c.ends_network.ensures ∙ c.if-ends_network.false in
    stops _ _ _ _ _ (λ e. cc) (λ x. line_over _ _ _ x.0 x.1 c.in-Network.is mark (omega (arith, c.len.ensures, c.in-Network.part.ok)))

pub returns-in-Steps-clause-run : goal.returns-in-Steps-clause-run
returns-in-Steps-clause-run g c = advances_as (λ (x : Bool × List (List ℕ)). x.1) _ _ _ _ _ _ _ _ _ (λ x. at_steps _ _ _ _ _ c.in-Steps.is) (λ x. at_steps _ _ _ _ _ refl) (ap (λ o. o.text) (at_steps _ _ _ false _ c.in-Steps.is)) c.take_step.ensures.run

pub returns-in_ok-extend_from_slice-in-Network-clause-run : goal.returns-in_ok-extend_from_slice-in-Network-clause-run
returns-in_ok-extend_from_slice-in-Network-clause-run g c =
    let mark : ends_network c.args.line.now ≡ false = sym c.ends_network.ensures ∙ c.if-ends_network.false in
    stays _ _ _ _ (λ x. line_kept _ _ _ _ _ x.0 x.1 c.in-Network.is refl c.in_ok-extend_from_slice-in-Network.ensures.items refl refl refl mark)

pub returns-in-Ok-Runs-clause-run : goal.returns-in-Ok-Runs-clause-run
returns-in-Ok-Runs-clause-run g c =
    let mark : ends_network c.args.line.now ≡ true = sym c.ends_network.ensures ∙ c.if-ends_network.true in
    let is : c.opened.result ≡ Ok (Runs c.in-Ok-Runs.net) = c.in-Ok-Runs.is ∙ ap Ok c.in-Ok-Runs.field-0-is in
    opens_runs _ _ _ _ _ c.opened.ensures.opened (λ (x : Bool × List (List ℕ)). x.1) _ _ _ _
    (λ x. line_ends _ _ _ x.0 x.1 c.in-Network.is (part_within _ _ c.in-Network.is c.requires.ready) mark
    ∙ ap (λ p. network_reply c.args.self.now.audit (network_of p) (c.args.self.now.lines + 1) (c.args.self.now.taken + length c.args.line.now) x.1) (sym c.deref.ensures.value))
    _ _ is (λ x. at_steps _ _ _ _ _ refl)

pub returns-in-Ok-Runs-clause-ready : goal.returns-in-Ok-Runs-clause-ready
returns-in-Ok-Runs-clause-ready g c e =
    let mark : ends_network c.args.line.now ≡ true = sym c.ends_network.ensures ∙ c.if-ends_network.true in
    let is : c.opened.result ≡ Ok (Runs c.in-Ok-Runs.net) = c.in-Ok-Runs.is ∙ ap Ok c.in-Ok-Runs.field-0-is in
    ready_steps c.args.self.now _ _ _ c.in-Network.is c.requires.ready (c.opened.ensures.opened.runs c.in-Ok-Runs.net is).0.running c.requires.some (mark_short c.args.line.now mark)

pub returns-in-Ok-Over-clause-run : goal.returns-in-Ok-Over-clause-run
returns-in-Ok-Over-clause-run g c =
    let mark : ends_network c.args.line.now ≡ true = sym c.ends_network.ensures ∙ c.if-ends_network.true in
    let is : c.opened.result ≡ Ok (Over c.in-Ok-Over.status) = c.in-Ok-Over.is ∙ ap Ok c.in-Ok-Over.field-0-is in
    opens_over _ _ _ _ _ c.opened.ensures.opened (λ (x : Bool × List (List ℕ)). x.1) _ _ _ _
    (λ x. line_ends _ _ _ x.0 x.1 c.in-Network.is (part_within _ _ c.in-Network.is c.requires.ready) mark
    ∙ ap (λ p. network_reply c.args.self.now.audit (network_of p) (c.args.self.now.lines + 1) (c.args.self.now.taken + length c.args.line.now) x.1) (sym c.deref.ensures.value))
    (false, []) _ is
