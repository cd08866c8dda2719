-- Programs that the tests speak of.
use Rattle.std.specs.Prelude.{◌≡◌, List}
use Rattle.std.specs.List.{AllByRecursion}
use Rattle.xcm_program.specs.declared.instruction.Instruction.{Instruction, ClearOrigin}

abbrev pub AreClears : List Instruction → Type 0
AreClears program = AllByRecursion (λ i. i ≡ ClearOrigin) program
