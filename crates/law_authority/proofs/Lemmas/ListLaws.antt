-- Lemmas that proofs cite, in this crate and above it: the lists of a program, and of what it keeps for later, are in order. A reader of the
-- contracts may skip this file.
use Rattle.std.proofs.Common.{◌≡◌, ℕ, List, [], Ok, subst}
use Rattle.std.specs.List.{AllByRecursion}
use Rattle.xcm_program.specs.declared.instruction.Instruction.{Instruction, out-Instruction}
use Rattle.xcm_program.specs.declared.instruction.Instruction.TheOpen.{Instruction-F}
use Rattle.xcm_program.specs.Measure.{inner}
use Rattle.xcm_program.specs.Everywhere.{AllInside}
use Rattle.xcm_program.proofs.Lemmas.{everywhere_open, everywhere_made}
use Rattle.versioned_xcm.specs.Reading.{message_of}
use Rattle.exec_base.specs.declared.event.Part.TheVariants.{Program}
use Rattle.exec_rules.specs.Machine.{Machine, IsOrderly}
use Rattle.exec_rules.specs.Run.{Stage, begin, steps}
use Rattle.exec_rules.specs.Outcome.{refund_surplus}
use Rattle.exec_rules.specs.Keeping.{IsAheadOf}
use Rattle.exec_rules.proofs.Lemmas.KeepingLaws.{steps_hold}
use Rattle.exec_rules.specs.Instructions.{xcm}
use Rattle.law_runs.specs.Safety.{HasList, AreLists}
use Rattle.law_runs.proofs.Lemmas.Shipping.{HasList-IsOfLayer}
use Rattle.law_runs.proofs.Lemmas.Runs.{lists_go_inside}
use Rattle.law_steps.specs.Reading.{Decodes}
use Rattle.law_steps.proofs.Lemmas.Reading.{decoded_runs}
use Rattle.law_steps.proofs.Lemmas.Locals.{no_ahead}

pub open_list : (x : Instruction) (l : Instruction-F Instruction) → out-Instruction x ≡ l → AreLists x → HasList Instruction l
open_list x l is q = subst (HasList Instruction) is (everywhere_open HasList HasList-IsOfLayer x q).0

pub inside_lists : (x : Instruction) (l : Instruction-F Instruction) → out-Instruction x ≡ l → AreLists x → AllInside AreLists (inner l)
inside_lists x l is q = subst (λ (k : Instruction-F Instruction). AllInside AreLists (inner k)) is (everywhere_open HasList HasList-IsOfLayer x q).1

pub refund_lists : AreLists refund_surplus
refund_lists = everywhere_made HasList HasList-IsOfLayer Instruction-F.RefundSurplus tt tt

-- wherever a run is, the lists of what may still run are in order
pub lists_ahead : IsOrderly xcm → (g : Stage) → IsAheadOf AreLists g → (k : ℕ) → IsAheadOf AreLists (steps xcm k g)
lists_ahead orderly g ahead k = steps_hold xcm orderly AreLists lists_go_inside k g ahead

pub program_ahead : IsOrderly xcm → (program : List Instruction) (m : Machine) → m.regs.handler ≡ [] → m.regs.appendix ≡ [] → AllByRecursion AreLists program → (k : ℕ) → IsAheadOf AreLists (steps xcm k (begin Program program m))
program_ahead orderly program m h a all k = lists_ahead orderly (begin Program program m) (no_ahead program m h a all) k

-- what is read
pub decoded_lists : Decodes → (bytes : List ℕ) (program : List Instruction) → message_of bytes ≡ Ok program → AllByRecursion AreLists program
decoded_lists law bytes program e = (decoded_runs law bytes program e).lists
