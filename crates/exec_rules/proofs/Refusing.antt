-- What a refused instruction leaves.
use Rattle.std.proofs.Common.{◌≡◌, ℕ, List, [], ◌∷◌, Option, Some, refl, sym, ap, subst}
use Rattle.operands.specs.declared.error.XcmError.{XcmError}
use Rattle.operands.specs.declared.weight.Weight.{Weight}
use Rattle.weight_trader.specs.Purchases.{no_weight}
use Rattle.xcm_program.specs.declared.instruction.Instruction.{Instruction}
use Rattle.exec_base.specs.declared.event.Part.{Part}
use Rattle.exec_base.specs.declared.event.Event.{Event}
use Rattle.exec_base.specs.declared.registers.Registers.{Registers}
use Rattle.exec_base.specs.Host.{told}
use Rattle.exec_rules.specs.Machine.{Machine, Rules}
use Rattle.exec_rules.specs.Run.{At, failed, to_appendix, to_handler, traced, by_answer, next, machine_of, without_appendix}
use Rattle.exec_rules.specs.Keeping.{LeavesAll}
use Rattle.exec_rules.proofs.Lemmas.KeepingLaws.{begin_machine}
use Rattle.exec_base.specs.declared.event.Part.TheVariants.{Appendix}

-- what is told changes the lines alone
pub told_leaves : (m : Machine) (e : Event) → LeavesAll m (record m { part = told m.part e })
unfolding told
told_leaves m e = record { registers = refl; chain = refl }

-- registers by which the run is steered
steered : (m n : Machine) → LeavesAll m n → (handler appendix : List Instruction) (of_handler of_appendix : Weight)
    → LeavesAll m (record n { regs = record n.regs { handler = handler; handler_weight = of_handler; appendix = appendix; appendix_weight = of_appendix } })
steered m n l handler appendix of_handler of_appendix = record {
  registers = ap (λ (r : Registers). record r { handler = handler; handler_weight = of_handler; appendix = appendix; appendix_weight = of_appendix }) l.registers;
  chain = l.chain;
}

appendix_leaves : (m n : Machine) → LeavesAll m n → LeavesAll m (machine_of (to_appendix n))
appendix_leaves m n l =
    subst (LeavesAll m) (sym (begin_machine Appendix n.regs.appendix (record n { regs = without_appendix n.regs })))
    (steered m n l n.regs.handler [] n.regs.handler_weight no_weight)

handler_leaves : (m n : Machine) (handler : List Instruction) → LeavesAll m n → LeavesAll m (machine_of (to_handler handler n))
handler_leaves m n [] l = appendix_leaves m n l
handler_leaves m n (x ∷ behind) l = steered m n l [] n.regs.appendix no_weight n.regs.appendix_weight

failed_leaves : (m n : Machine) (place : ℕ) (e : XcmError) (behind : List Instruction) → LeavesAll m n → LeavesAll m (record n { regs = failed place e behind m.regs })
failed_leaves m n place e behind l = record { registers = refl; chain = l.chain }

pub refused_leaves : (rules : Rules) (part : Part) (place : ℕ) (x : Instruction) (behind : List Instruction) (m : Machine) (e : XcmError) → rules.refusal_of x m ≡ Some e
    → LeavesAll m (machine_of (next rules (At part place x behind m)))
refused_leaves rules part place x behind m e refused =
    let t = traced part place x (Some e) m in
    subst (λ (o : Option XcmError). LeavesAll m (machine_of (by_answer rules part place x behind m o))) (sym refused)
    (handler_leaves m (record t { regs = failed place e behind m.regs }) m.regs.handler (failed_leaves m t place e behind (told_leaves m _)))
