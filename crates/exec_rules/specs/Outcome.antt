-- How a run ends. Source: xcm-executor's documentation of outcomes and trapped assets. That the surplus is refunded once more, what is told
-- at the end, and what is parked are this project's own rule.
use Rattle.std.specs.Prelude.{◌≡◌, ◌⊎◌, ℕ, nat_eq, if◌then◌else◌, length, Option, Some, None}
use Rattle.amounts.specs.Amounts.{rows}
use Rattle.locations.specs.declared.relative.Location.{Location}
use Rattle.operands.specs.declared.error.XcmError.{XcmError}
use Rattle.operands.specs.declared.weight.Weight.{Weight}
use Rattle.weight_trader.specs.Refunds.{weight_minus}
use Rattle.xcm_program.specs.declared.instruction.Instruction.{Instruction, roll-Instruction}
use Rattle.xcm_program.specs.declared.instruction.Instruction.TheOpen.{Instruction-F}
use Rattle.xcm_program.specs.declared.outcome.Outcome.{Outcome}
use Rattle.xcm_program.specs.declared.outcome.Outcome.TheVariants.{Complete, Incomplete}
use Rattle.xcm_program.specs.declared.outcome.OutcomeError.TheVariants.{Xcm}
use Rattle.exec_base.specs.declared.event.Event.{Event}
use Rattle.exec_base.specs.declared.registers.Registers.{Registers}
use Rattle.exec_base.specs.Part.{ChainPart}
use Rattle.exec_base.specs.Host.{told, settled, trapped, parked}
use Rattle.exec_rules.specs.Machine.{Machine, Rules}
use Rattle.exec_rules.specs.Run.{left_after}

-- complete where the error register is empty, else incomplete with its error
abbrev pub outcome_by : Weight → Option (ℕ × XcmError) → Outcome
outcome_by used None = Complete used
outcome_by used (Some failure) = Incomplete used (Xcm failure.1)

-- of a program of that weight: used is the weight without the surplus
abbrev pub outcome_of : Weight → Registers → Outcome
outcome_of weight r = outcome_by (weight_minus weight r.surplus) r.error

-- for whom the holding is trapped: the origin register, or where it is empty the original origin
abbrev pub owner_by : Location → Option Location → Location
owner_by original None = original
owner_by original (Some origin) = origin

abbrev pub owner_of : Registers → Location
owner_of r = owner_by r.original r.origin

abbrev pub end_event : Registers → Event
end_event r = Event.End r.origin r.topic r.surplus r.refunded

-- the trace tells of the end
abbrev pub end_told : Machine → ChainPart
end_told m = told m.part (end_event m.regs)

-- a holding that isn't empty is trapped
abbrev pub rest_trapped : Registers → ChainPart → ChainPart
rest_trapped r p = if nat_eq (length (rows r.holding)) 0 then p else trapped p r.holding (owner_of r)

-- the chain's part where memory was refused: the holding is among the parked bundles
abbrev pub abandoned : Registers → ChainPart → ChainPart
abandoned r p = parked p r.holding

abbrev pub refund_surplus : Instruction
refund_surplus = roll-Instruction Instruction-F.RefundSurplus

module _ (rules : Rules) where
  -- the surplus is refunded once more; a refusal is ignored
  abbrev pub refunded_last : Machine → Machine
  refunded_last m = left_after rules refund_surplus m (rules.refusal_of refund_surplus m)

  -- what is left when all is done, from the machine at the end of the last program: the last refund, the line of the end, paid fees where
  -- they belong, and the holding trapped
  abbrev pub finished : Machine → ChainPart
  finished m = let last = refunded_last m in rest_trapped last.regs (settled (end_told last))

  -- out of memory at the end: in the last refund, in the line of the end, in settlement, or in trapping
  abbrev pub HaltedAtEnd : (Instruction → Machine → Machine → Type 0) → Machine → ChainPart → Type 0
  HaltedAtEnd leaves_on_oom m now =
      let last = refunded_last m in
      ((spilt : Machine) × leaves_on_oom refund_surplus m spilt × (now ≡ abandoned spilt.regs spilt.part))
      ⊎ (now ≡ abandoned last.regs last.part)
      ⊎ (now ≡ abandoned last.regs (end_told last))
      ⊎ (now ≡ abandoned last.regs (settled (end_told last)))
