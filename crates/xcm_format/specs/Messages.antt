-- Messages: a version byte, one program spelled in that version, and nothing after. Source: the XCM format (versioned programs). This
-- project's own rule: the versions 3 and 4 alone are read (0, 1, 2 and 5 are left out), and the limits of 100 deep instructions, 8 levels and
-- 65,536 bytes.
use Rattle.std.specs.Prelude.{◌≡◌, ◌≤◌, ℕ, List, ◌∷◌, length}
use Rattle.operands.specs.declared.version.Version.{Version}
use Rattle.operands.specs.declared.version.Version.TheVariants.{V3, V4}
use Rattle.xcm_program.specs.declared.instruction.Instruction.{Instruction}
use Rattle.xcm_program.specs.Measure.{deep_count, depth}
use Rattle.xcm_format.specs.Programs.{program_spelling, FitsProgram}

abbrev pub version_byte : Version → ℕ
version_byte V3 = 3
version_byte V4 = 4

-- the bytes of a message
unfoldable pub message : Version → List Instruction → List ℕ
message v program = version_byte v ∷ program_spelling v program

-- few instructions, not nested too deeply
pub record IsSmall (program : List Instruction) : Type 0 where
  pub few : deep_count program ≤ 100
  pub low : depth program ≤ 8

-- what is read: a program that has a spelling, within the limits
pub record IsReadable (v : Version) (program : List Instruction) : Type 0 where
  pub fits : FitsProgram v program
  pub small : IsSmall program

-- the bytes are the program's message in this version
pub record IsMessageIn (v : Version) (bytes : List ℕ) (program : List Instruction) : Type 0 where
  pub short : length bytes ≤ 65536
  pub text : bytes ≡ message v program
  pub readable : IsReadable v program

abbrev pub IsMessage : List ℕ → List Instruction → Type 0
IsMessage bytes program = (v : Version) × IsMessageIn v bytes program
