-- What the function of an instruction relies on, and what it answers. The instruction is named with its fields, without what keeps it as a
-- value. This project's own vocabulary.
use Rattle.std.specs.Prelude.{◌≡◌, ◌+◌, ◌<◌, ◌^◌, Some, None, Result, Ok, Err}
use Rattle.operands.specs.declared.error.XcmError.{XcmError}
use Rattle.operands.specs.Weights.{IsWithin}
use Rattle.xcm_program.specs.declared.instruction.Instruction.{Instruction, roll-Instruction}
use Rattle.xcm_program.specs.declared.instruction.Instruction.TheOpen.{Instruction-F}
use Rattle.xcm_program.specs.Weights.{kept}
use Rattle.exec_rules.specs.Machine.{Machine, control_of}
use Rattle.exec_rules.specs.Accounts.{freed, HasWeight}
use Rattle.exec_rules.specs.Instructions.{refused, done}
use Rattle.exec_rules.specs.Readiness.{IsSteady, IsSoundInstruction}

-- it ran: it isn't refused and left what its rule says, or it is refused just so and left all as it was
abbrev pub Ran : Instruction-F Instruction → Machine → Result (Unit {0}) XcmError → Machine → Type 0
Ran l before (Ok _) now = (refused l before ≡ None) × (now ≡ done l before)
Ran l before (Err e) now = (refused l before ≡ Some e) × (now ≡ before)

-- what it may rely on: a steady machine, sound operands, and that the weights which it moves can be counted
pub record IsReadyFor (l : Instruction-F Instruction) (m : Machine) : Type 0 where
  pub steady : IsSteady m
  pub sound : IsSoundInstruction (roll-Instruction l)
  pub refunded : IsWithin m.regs.refunded m.regs.surplus
  pub weighs : HasWeight m.regs.rule (kept l)
  pub short : m.regs.surplus.ref_time + (freed l (control_of m.regs)).ref_time < 2 ^ 64
  pub small : m.regs.surplus.proof_size + (freed l (control_of m.regs)).proof_size < 2 ^ 64
