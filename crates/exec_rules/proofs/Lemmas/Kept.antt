-- Lemmas on the definitions of `specs/Kept.antt`: what proofs cite.
use Rattle.std.specs.Prelude.{◌≡◌, None}
use Rattle.xcm_program.specs.declared.instruction.Instruction.TheOpen.{Instruction-F}
use Rattle.exec_base.specs.declared.registers.Registers.{Registers}
use Rattle.exec_rules.specs.Machine.{Machine}
use Rattle.exec_rules.specs.HostCalls.{MachineWithGoods, between, MachineCall, why_not, after}
use Rattle.exec_rules.specs.Reasons.{IsFrom, Moment, HasReason}
use Rattle.exec_rules.proofs.Lemmas.Reasons.{ComesAtEnd}

-- a fact that the end of a run keeps, also where memory is refused there: the last refund, the line that tells of it, settlement, and what is
-- held is trapped or parked
pub record IsKeptAtEnd (K : MachineWithGoods → Type 0) : Type 0 where
  pub closing : (m : Machine) (t : MachineWithGoods) (c : MachineCall) → K (between m) → HasReason Moment.AtEnd Instruction-F.RefundSurplus m t c → ComesAtEnd c → IsFrom m t → why_not c t ≡ None → K t → K (after c t)
  pub closed : (t : MachineWithGoods) (r : Registers) → r.holding ≡ t.regs.holding → r.origin ≡ t.regs.origin → K t → K (record t { regs = r })
