-- The two instructions by which assets come from another chain, told apart by a flag. This project's own vocabulary.
use Rattle.std.specs.Prelude.{Bool, if◌then◌else◌, List}
use Rattle.asset_lists.specs.declared.units.Asset.{Asset}
use Rattle.xcm_program.specs.declared.instruction.Instruction.{Instruction}
use Rattle.xcm_program.specs.declared.instruction.Instruction.TheOpen.{Instruction-F}

-- teleported here, or deposited there in this chain's account
abbrev pub arrival_instruction : Bool → List Asset → Instruction-F Instruction
arrival_instruction teleport list = if teleport then Instruction-F.ReceiveTeleportedAsset list else Instruction-F.ReserveAssetDeposited list
