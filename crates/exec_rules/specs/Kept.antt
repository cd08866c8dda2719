-- What every execution keeps: a fact that each call keeps, and each change of the other registers. This project's own vocabulary.
use Rattle.std.specs.Prelude.{◌≡◌, None}
use Rattle.amounts.specs.Amounts.{empty}
use Rattle.xcm_program.specs.declared.instruction.Instruction.{Instruction, out-Instruction}
use Rattle.xcm_program.specs.declared.instruction.Instruction.TheOpen.{Instruction-F}
use Rattle.exec_base.specs.declared.registers.Registers.{Registers}
use Rattle.exec_base.specs.Part.{ChainPart}
use Rattle.exec_rules.specs.Machine.{Machine, machine}
use Rattle.exec_rules.specs.Outcome.{refund_surplus}
use Rattle.exec_rules.specs.HostCalls.{MachineWithGoods, between, MachineCall, why_not, after}
use Rattle.exec_rules.specs.Reasons.{IsFrom, Turns, Moment, HasReason}

-- a fact that executions keep, where their instructions are of one kind
pub record IsKeptByCalls (Q : Instruction → Type 0) (K : MachineWithGoods → Type 0) : Type 0 where
  pub refunds : Q refund_surplus
  pub called : (x : Instruction) (l : Instruction-F Instruction) → out-Instruction x ≡ l → Q x
      → (moment : Moment) (m : Machine) (t : MachineWithGoods) (c : MachineCall) → K (between m) → HasReason moment l m t c → IsFrom m t → why_not c t ≡ None → K t → K (after c t)
  pub turned : (t : MachineWithGoods) (r : Registers) → Turns t.regs r → K t → K (record t { regs = r })

-- it holds of a part with some registers, and nothing held or in hand
pub record HoldsAtEnd (K : MachineWithGoods → Type 0) (p : ChainPart) : Type 0 where
  pub regs : Registers
  pub nothing : regs.holding ≡ empty
  pub kept : K (between (machine regs p))
