-- What is answered to a tree. Source: this project's own rule; the tree of a message is that of `program_text`, under the heading of an explanation.
use Rattle.std.specs.Prelude.{◌≡◌, ◌⊎◌, ◌<◌, ◌^◌, ℕ, List, [], ◌∷◌, ◌++◌, slice_index, codes, decimal}
use Rattle.location_wire.specs.Texts.{hex_text}
use Rattle.xcm_program.specs.declared.instruction.Instruction.{Instruction}
use Rattle.message_text.specs.Messages.{program_text}
use Rattle.versioned_xcm.specs.Message.{IsDecoded}
use Rattle.xcm_explain.specs.Blocks.{message_tree, message_block}
use Rattle.tree_reading.specs.declared.expected.Expected.{Expected}
use Rattle.tree_reading.specs.Expectations.{expectation_text}
use Rattle.tree_reading.specs.Puts.{AreBytes}

-- the line of a message
abbrev pub message_line : List ℕ → List ℕ
message_line bytes = hex_text bytes ++ codes "\n"

-- the line instead of a message
abbrev pub refused_line : ℕ → Expected → List ℕ
refused_line line expected =
    codes "line " ++ (decimal line ++ (codes " refused, expected " ++ (expectation_text expected ++ codes "\n")))

-- The bytes are the message of a program, and the text is its tree under a heading of this number: what an explanation says of these bytes
-- in the line of this number.
pub record IsExplained (number : ℕ) (bytes text : List ℕ) : Type 0 where
  pub program : List Instruction
  pub message : IsDecoded bytes program
  pub tree : text ≡ message_tree number (slice_index bytes 0) (program_text 1 program)
  pub explained : text ≡ message_block number bytes

-- the text is the tree of a message: of these bytes, under a heading with this number, which is below 2^64
pub record IsTreeOf (number : ℕ) (bytes tree : List ℕ) : Type 0 where
  pub small : number < 2 ^ 64
  pub all : AreBytes bytes
  pub explained : IsExplained number bytes tree

-- no message has this tree
abbrev pub HasNoMessage : List ℕ → Type 0
HasNoMessage tree = (number : ℕ) (bytes : List ℕ) → IsTreeOf number bytes tree → ⊥

-- no other number and bytes have this tree
abbrev pub IsOnly : ℕ → List ℕ → List ℕ → Type 0
IsOnly number bytes tree = (n : ℕ) (b : List ℕ) → IsTreeOf n b tree → (number ≡ n) × (bytes ≡ b)

-- the text is the line of the message whose tree this is
pub record IsComposed (tree text : List ℕ) : Type 0 where
  pub number : ℕ
  pub bytes : List ℕ
  pub explained : IsExplained number bytes tree
  pub only : IsOnly number bytes tree
  pub line : text ≡ message_line bytes

-- the text is a line instead of a message, and no message has this tree
pub record IsTreeRefused (tree text : List ℕ) : Type 0 where
  pub line : ℕ
  pub expected : Expected
  pub refused : text ≡ refused_line line expected
  pub none : HasNoMessage tree

-- one of both
abbrev pub IsJudged : List ℕ → List ℕ → Type 0
IsJudged tree text = IsComposed tree text ⊎ IsTreeRefused tree text

-- what may be answered to a tree: nothing where there is none
abbrev pub IsAnswer : List ℕ → List ℕ → Type 0
IsAnswer [] text = text ≡ []
IsAnswer (b ∷ tree) text = IsJudged (b ∷ tree) text

-- No byte: it stands for an answer that a run didn't come to. What is written is of bytes, so nothing that is written has it.
abbrev pub unwritten : List ℕ
unwritten = 256 ∷ []

-- what stands for the answer to a tree: the answer, or the mark that it wasn't written
abbrev pub StandsFor : List ℕ → List ℕ → Type 0
StandsFor tree text = IsAnswer tree text ⊎ (text ≡ unwritten)
