-- The list of names has that of each instruction at its index.
use Rattle.std.proofs.Common.{◌≡◌, refl}
use Rattle.xcm_program.specs.Indices.{index}
use Rattle.xcm_program.specs.Texts.{instruction_name}
use Rattle.xcm_program.specs.declared.instruction.Instruction.TheOpen.{Instruction-F}
use Rattle.xcm_program.specs.Names.{instruction_name_at}

pub names_fit : {X : Type 0} (x : Instruction-F X) → instruction_name_at (index x) ≡ instruction_name x
unfolding instruction_name_at
names_fit (Instruction-F.WithdrawAsset _) = refl
names_fit _ = refl
