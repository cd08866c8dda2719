-- A fact of each layer of an instruction, through all nested programs.
use Rattle.std.specs.Prelude.{List, Option, Some, None, ⊤}
use Rattle.std.specs.List.{AllByRecursion}
use Rattle.xcm_program.specs.declared.instruction.Instruction.{Instruction, rec-Instruction}
use Rattle.xcm_program.specs.declared.instruction.Instruction.TheOpen.{Instruction-F}
use Rattle.xcm_program.specs.Measure.{inner}

abbrev pub AllInside : {X : Type 0} → (X → Type 0) → Option (List X) → Type 0
AllInside P None = ⊤
AllInside P (Some program) = AllByRecursion P program

abbrev pub Everywhere : ((X : Type 0) → Instruction-F X → Type 0) → Instruction → Type 0
Everywhere Q = rec-Instruction (Type 0) (λ X v k l. Q X l × AllInside k (inner l))
