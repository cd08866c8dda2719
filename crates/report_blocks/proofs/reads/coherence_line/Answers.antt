use Rattle.std.proofs.Common.{◌≡◌, ◌∙◌, ap, sym, subst, IfOk, string_bytes}
use Rattle.network_steps.specs.Genesis.{entries_of}
use Rattle.law_coherence.specs.Causes.{first_cause}
use Rattle.chain_net.specs.Nets.{spec_of}
use Rattle.report_blocks.proofs.Reading.{line_coherent, line_found}
use Rattle.report_blocks.proofs.reads.coherence_line.Goals as goal

pub returns-in-Ok : goal.returns-in-Ok
returns-in-Ok c =
    subst (λ t. IfOk c.opening_line.result (λ text. string_bytes text ≡ t)) (line_coherent (spec_of c.args.net.now) (ap (λ s. first_cause (entries_of s)) (sym c.spec.ensures) ∙ c.in-Ok.ensures.coherent)) c.opening_line.ensures

pub returns-in-Err : goal.returns-in-Err
returns-in-Err c =
    subst (λ t. IfOk c.opening_line-in-Err.result (λ text. string_bytes text ≡ t)) (line_found (spec_of c.args.net.now) c.in-Err.found (ap (λ s. first_cause (entries_of s)) (sym c.spec.ensures) ∙ c.in-Err.ensures.first)) c.opening_line-in-Err.ensures
