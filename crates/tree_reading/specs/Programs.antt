-- Programs that a tree can say. Source: this project's own rule; the spellings are those of the XCM format.
use Rattle.std.specs.Prelude.{◌≡◌, ◌+◌, ℕ, true, List, ◌++◌, length, map, Bool, is_some, Result, MatchResult}
use Rattle.scale_codec.specs.Spelling.{joined}
use Rattle.operands.specs.declared.version.Version.{Version}
use Rattle.xcm_program.specs.declared.instruction.Instruction.{Instruction}
use Rattle.xcm_program.specs.declared.instruction.Instruction.TheOpen.{Instruction-F}
use Rattle.xcm_program.specs.Measure.{inner, deep_count}
use Rattle.xcm_program.specs.Conversions.{names_concrete_ids, is_convertible_one, is_convertible}
use Rattle.xcm_format.specs.Programs.{head, FitsHead, instruction_spelling, FitsInstruction, program_spelling, FitsProgram}
use Rattle.tree_reading.specs.declared.expected.TreeFault.{TreeFault}
use Rattle.tree_reading.specs.declared.expected.TreeFault.TheVariants.{Memory}
use Rattle.tree_reading.specs.Puts.{AreBytes}

-- ---- what can be said: it fits the version, its assets' ids are locations, and its spelling is of bytes

pub record HasTree (v : Version) (program : List Instruction) : Type 0 where
  pub fits : FitsProgram v program
  pub convertible : is_convertible program ≡ true
  pub all : AreBytes (program_spelling v program)

-- the same of an instruction
pub record HasRows (v : Version) (instruction : Instruction) : Type 0 where
  pub fits : FitsInstruction v instruction
  pub convertible : is_convertible_one instruction ≡ true
  pub all : AreBytes (instruction_spelling v instruction)

-- the same of an instruction without the program inside
pub record HasHead {X : Type 0} (v : Version) (layer : Instruction-F X) : Type 0 where
  pub fits : FitsHead v layer
  pub concrete : names_concrete_ids layer ≡ true
  pub all : AreBytes (head v layer)

-- ---- what was read, unless memory ran out

-- an instruction up to the program inside: whether there is one, what is left of the rows, and what was appended
abbrev pub TookHead : {X : Type 0} → Version → Instruction-F X → List ℕ → Result Bool TreeFault → List ℕ → List ℕ → List ℕ → Type 0
TookHead v layer rest result new_rows old_out new_out =
    MatchResult result (λ nests. (nests ≡ is_some (inner layer)) × (new_rows ≡ rest) × (new_out ≡ old_out ++ head v layer)) (λ stop. stop ≡ Memory)

-- so many instructions, nested ones counted: what is left of the rows, what was appended, and how many instructions may still come
abbrev pub TookCounted : {A : Type 0} → List ℕ → List ℕ → ℕ → Result A TreeFault → List ℕ → List ℕ → List ℕ → ℕ → ℕ → Type 0
TookCounted rest said many result new_rows old_out new_out old_left new_left =
    MatchResult result (λ _. (new_rows ≡ rest) × (new_out ≡ old_out ++ said) × (new_left + many ≡ old_left)) (λ stop. stop ≡ Memory)

-- the same of all instructions of a program, and their number
abbrev pub TookInstructions : Version → List Instruction → List ℕ → Result ℕ TreeFault → List ℕ → List ℕ → List ℕ → ℕ → ℕ → Type 0
TookInstructions v program rest result new_rows old_out new_out old_left new_left =
    MatchResult result
    (λ n. (n ≡ length program) × (new_rows ≡ rest) × (new_out ≡ old_out ++ joined (map (instruction_spelling v) program)) × (new_left + deep_count program ≡ old_left))
    (λ stop. stop ≡ Memory)
