-- What follows the index of an instruction, up to the program inside.
use Rattle.std.specs.Prelude.{ℕ, List, drop}
use Rattle.operands.specs.declared.version.Version.{Version}
use Rattle.xcm_program.specs.declared.instruction.Instruction.TheOpen.{Instruction-F}
use Rattle.xcm_format.specs.Programs.{head}

abbrev pub instruction_fields : {X : Type 0} → Version → Instruction-F X → List ℕ
instruction_fields v l = drop 1 (head v l)
