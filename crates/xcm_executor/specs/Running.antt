-- What the parts of an execution rely on, and what they leave where memory is refused. This project's own vocabulary.
use Rattle.std.specs.Prelude.{◌≡◌, ◌⊎◌, ℕ, List}
use Rattle.xcm_program.specs.declared.instruction.Instruction.{Instruction}
use Rattle.exec_base.specs.declared.event.Part.{Part}
use Rattle.exec_base.specs.Host.{settled}
use Rattle.exec_rules.specs.Machine.{Machine, machine}
use Rattle.exec_rules.specs.Run.{Stage, At, begin, Reaches}
use Rattle.exec_rules.specs.Accounts.{IsWeightAccounted}
use Rattle.exec_rules.specs.Outcome.{refund_surplus, end_told, refunded_last}
use Rattle.exec_rules.specs.Instructions.{xcm}
use Rattle.exec_rules.specs.Readiness.{IsReady}
use Rattle.exec_rules.specs.Stopping.{leaves_on_oom}

-- wherever the run comes from here, the next instruction may be taken
abbrev pub IsReadyThroughout : Stage → Type 0
IsReadyThroughout g = (part : Part) (place : ℕ) (x : Instruction) (behind : List Instruction) (m : Machine) → Reaches xcm g (At part place x behind m) → IsReady x m

-- a program may be run: what it weighs is accounted for, and its instructions may be taken
pub record IsReadyToRun (part : Part) (program : List Instruction) (m : Machine) : Type 0 where
  pub accounted : IsWeightAccounted program m.regs
  pub ready : IsReadyThroughout (begin part program m)

-- at the end of a run, before what is held is trapped: the last refund, the line of the end, and paid fees where they belong
abbrev pub wound_up : Machine → Machine
wound_up m = let last = refunded_last xcm m in machine last.regs (settled (end_told last))

-- out of memory at the end of a run, there: in the last refund, in the line of the end, or in settlement
abbrev pub HaltedBefore : Machine → Machine → Type 0
HaltedBefore m now =
    let last = refunded_last xcm m in
    leaves_on_oom refund_surplus m now ⊎ (now ≡ last) ⊎ (now ≡ machine last.regs (end_told last))
