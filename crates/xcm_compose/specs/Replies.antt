-- What is written for the lines of an input, and how it ends. Source: this project's own rule.
use Rattle.std.specs.Prelude.{◌≡◌, ℕ, ◌+◌, ◌≤◌, nat_lt, ◌==◌, ◌&&◌, List, [], ◌∷◌, ◌++◌, length, slice_index, Bool, true, false, codes, if◌then◌else◌}
use Rattle.input_lines.specs.Lines.{text_of, lines_of}
use Rattle.input_lines.specs.Step.{is_no_step}
use Rattle.line_serving.specs.Replies.{Reply, ends, then_on, fits_limits, max_input}
use Rattle.line_serving.specs.declared.status.Status.TheVariants.{Done, TooLong}
use Rattle.xcm_compose.specs.declared.composer.Composer.{Composer}
use Rattle.xcm_compose.specs.Answers.{StandsFor}

-- a line of this text belongs to the tree that has begun: there is one, and the text begins with a space
unfoldable pub goes_on : List ℕ → List ℕ → Bool
goes_on tree text =
    nat_lt 0 (length tree) && (nat_lt 0 (length text) && slice_index text 0 == 32)

-- the tree with one line more
abbrev pub with_line : List ℕ → List ℕ → List ℕ
with_line tree text = tree ++ (text ++ codes "\n")

-- the tree that begins with a line of this text: none, where it is empty or a comment
unfoldable pub begun_tree : List ℕ → List ℕ
begun_tree text = if is_no_step text then [] else with_line [] text

-- the first where the test holds, else the other
abbrev pub Chosen : Bool → Type 0 → Type 0 → Type 0
Chosen true A B = A
Chosen false A B = B

-- the tree is answered, and then come the others
abbrev pub IsAnswered : List ℕ → (Reply → Type 0) → Reply → Type 0
IsAnswered tree IsRest whole =
    (text : List ℕ) × (rest : Reply) × StandsFor tree text × IsRest rest × (whole ≡ then_on text rest)

-- What may be written for these lines, after which the input ends, and the answer: with a tree that has begun and so many bytes before them.
-- A tree is answered where the next line doesn't belong to it, or the input ends; of one at whose lines the input passes a limit nothing is said.
unfoldable pub IsReply : ℕ → List ℕ → List (List ℕ) → Reply → Type 0
IsReply taken tree [] whole = (text : List ℕ) × StandsFor tree text × (whole ≡ ends text Done)
IsReply taken tree (line ∷ lines) whole =
    Chosen (fits_limits taken line)
    (Chosen (goes_on tree (text_of line))
    (IsReply (taken + length line) (with_line tree (text_of line)) lines whole)
    (IsAnswered tree (IsReply (taken + length line) (begun_tree (text_of line)) lines) whole))
    (whole ≡ ends [] TooLong)

-- the same where a line of this text comes first, within the limits, and the bytes up to its end are taken
abbrev pub IsTextReply : ℕ → List ℕ → List ℕ → List (List ℕ) → Reply → Type 0
IsTextReply taken tree text lines whole =
    Chosen (goes_on tree text) (IsReply taken (with_line tree text) lines whole)
    (IsAnswered tree (IsReply taken (begun_tree text) lines) whole)

-- the same of a composer
abbrev pub IsReplyOf : Composer → List (List ℕ) → Reply → Type 0
IsReplyOf it lines whole = IsReply it.taken it.tree.items lines whole

-- what may be written for an input, and the answer
abbrev pub IsComposition : List ℕ → Reply → Type 0
IsComposition bytes whole = IsReply 0 [] (lines_of bytes) whole

-- no more lines than bytes, and these within the limit
pub record IsInBounds (it : Composer) : Type 0 where
  pub lines : it.lines ≤ it.taken
  pub bytes : it.taken ≤ max_input
