-- The two instructions by which assets leave for another chain, told apart by their way. This project's own vocabulary.
use Rattle.std.specs.Prelude.{List}
use Rattle.locations.specs.declared.relative.Location.{Location}
use Rattle.asset_lists.specs.declared.filters.Filter.{Filter}
use Rattle.asset_bundles.specs.declared.shipment.Way.{Way}
use Rattle.xcm_program.specs.declared.instruction.Instruction.{Instruction}
use Rattle.xcm_program.specs.declared.instruction.Instruction.TheOpen.{Instruction-F}

-- withdrawn at their reserve, or teleported
abbrev pub leaving : Way → Filter → Location → List Instruction → Instruction-F Instruction
leaving Way.Withdrawal filter dest xcm = Instruction-F.InitiateReserveWithdraw filter dest xcm
leaving Way.Teleport filter dest xcm = Instruction-F.InitiateTeleport filter dest xcm
