-- Trees of messages: a heading with a number and the version, and below it the program. Source: this project's own rule; the bytes of a message are
-- those of the XCM format.
use Rattle.std.specs.Prelude.{◌≡◌, ℕ, List, ◌++◌, codes, decimal}
use Rattle.operands.specs.declared.version.Version.{Version}
use Rattle.xcm_program.specs.declared.instruction.Instruction.{Instruction}
use Rattle.xcm_format.specs.Messages.{version_byte, message}
use Rattle.message_text.specs.Lines.{line}
use Rattle.message_text.specs.Messages.{program_text}
use Rattle.tree_reading.specs.declared.trees.Numbered.{Numbered}

-- what follows the number
abbrev pub version_words : Version → List ℕ
version_words v = codes "version " ++ decimal (version_byte v)

abbrev pub heading_words : ℕ → Version → List ℕ
heading_words number v = codes "message " ++ (decimal number ++ (codes " " ++ version_words v))

abbrev pub tree_text : ℕ → Version → List Instruction → List ℕ
tree_text number v program = line 0 (heading_words number v) ++ program_text 1 program

-- this number, and the program's message
pub record IsNumbered (n : ℕ) (v : Version) (program : List Instruction) (made : Numbered) : Type 0 where
  pub number : made.number ≡ n
  pub bytes : made.bytes.items ≡ message v program
