-- The names of instructions by their indices, and which have a program inside.
use Rattle.std.proofs.Common.{◌≡◌, ℕ, ◌<◌, [], get_or, refl, lit<}
use Rattle.std.specs.Prelude.{is_some}
use Rattle.xcm_program.specs.declared.instruction.Instruction.TheOpen.{Instruction-F}
use Rattle.xcm_program.specs.Measure.{inner}
use Rattle.xcm_program.specs.Indices.{index}
use Rattle.xcm_program.specs.Names.{names, instruction_name_at}
use Rattle.xcm_program.specs.Texts.{instruction_name}
use Rattle.tree_reading.specs.Table.{nests}
use Rattle.tree_reading.proofs.Once.{IsOnce, once_from, index_in}

pub names_once : IsOnce names
unfolding once_from index_in
names_once = refl

pub name_at : {X : Type 0} (l : Instruction-F X) → instruction_name l ≡ instruction_name_at (index l)
unfolding instruction_name_at
name_at (Instruction-F.WithdrawAsset list) = refl
name_at _ = refl

pub name_from : (k : ℕ) → instruction_name_at k ≡ get_or names k []
unfolding instruction_name_at
name_from k = refl

pub index_low : {X : Type 0} (l : Instruction-F X) → index l < 48
index_low (Instruction-F.WithdrawAsset list) = lit< tt
index_low _ = lit< tt

pub nests_is : {X : Type 0} (l : Instruction-F X) → nests (index l) ≡ is_some (inner l)
nests_is (Instruction-F.WithdrawAsset list) = refl
nests_is _ = refl
