-- No instruction is refused because a checking account is below the amount: NotWithdrawable never comes. This project's own rule.
use Rattle.std.specs.Prelude.{◌≡◌, ◌≢◌, ⊤, ℕ, List, Some, Ok}
use Rattle.operands.specs.declared.error.XcmError.TheVariants as error
use Rattle.xcm_program.specs.declared.instruction.Instruction.{Instruction}
use Rattle.exec_rules.specs.Run.{Stage, At, Ended, Reaches}
use Rattle.exec_rules.specs.Instructions.{refusal_of, xcm}
use Rattle.exec_rules.specs.declared.admission.Admitted.{Admitted}
use Rattle.exec_rules.specs.Admission.{admitted}
use Rattle.exec_rules.specs.Execution.{first_stage}
use Rattle.network_steps.specs.Worlds.{World}
use Rattle.network_steps.specs.Acting.{caller}
use Rattle.network_steps.specs.Steps.{Link, Step}
use Rattle.law_steps.specs.Worlds.{IsExecution, begins, IsDelivery, arrives}
use Rattle.law_nets.specs.Paid.{sender_name, Admits}

-- the next instruction of a run isn't refused because a checking account is below the amount
abbrev pub IsCovered : Stage → Type 0
IsCovered (At part place x behind m) = refusal_of x m ≢ Some error.NotWithdrawable
IsCovered (Ended m) = ⊤

-- whatever the steps, so it is wherever the run of a local execution is
abbrev pub ExecutionsCovered : List Link → World → List Step → Type 0
ExecutionsCovered order w steps = (account : List ℕ) (program : List Instruction) (x : IsExecution order w steps account program) (a : Admitted) (g : Stage)
    → admitted x.member.rules (caller account) x.member.rules.limit (begins x.member).queries program ≡ Ok a
    → Reaches xcm (first_stage x.member.rules (caller account) a (begins x.member)) g → IsCovered g

-- whatever the steps, so it is wherever the run of a delivered message is
abbrev pub DeliveriesCovered : List Link → World → List Step → Type 0
DeliveriesCovered order w steps = (d : IsDelivery order w steps) (a : Admitted) (g : Stage)
    → Admits d a
    → Reaches xcm (first_stage d.receiver.rules (sender_name d) a (arrives d.sender d.receiver d.message)) g → IsCovered g

-- in each of them
pub record AllCovered (order : List Link) (w : World) (steps : List Step) : Type 0 where
  pub executions : ExecutionsCovered order w steps
  pub deliveries : DeliveriesCovered order w steps
