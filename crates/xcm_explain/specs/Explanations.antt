-- What is written for an input of messages, and the answer. Source: this project's own rule.
use Rattle.std.specs.Prelude.{◌≤◌, ℕ, ◌+◌, List, [], ◌∷◌, length, codes, String, if◌then◌else◌}
use Rattle.std.specs.List.{concat}
use Rattle.std.specs.declared.alloc.Global.{Global}
use Rattle.input_lines.specs.Lines.{text_of}
use Rattle.line_serving.specs.Replies.{Reply, Replies, Rooms, ends, then_on, bytes_reply, fits_limits, max_input, max_line}
use Rattle.line_serving.specs.declared.status.Status.TheVariants.{Done, Usage, LineRefused, TooLong}
use Rattle.xcm_explain.specs.declared.line.HexLine.TheVariants.{Blank, Bytes, NotHex}
use Rattle.xcm_explain.specs.declared.explainer.Explainer.{Explainer}
use Rattle.xcm_explain.specs.Lines.{hex_line}
use Rattle.xcm_explain.specs.Blocks.{message_block, not_hex_line}

-- these lines, with so many lines and bytes before them
unfoldable pub lines_explained : ℕ → ℕ → List (List ℕ) → Reply
lines_explained before taken [] = ends [] Done
lines_explained before taken (line ∷ lines) =
    if fits_limits taken line
    then elim (hex_line (text_of line)) [
      | Blank ↦ lines_explained (before + 1) (taken + length line) lines
      | Bytes bytes ↦ then_on (message_block (before + 1) bytes)
          (lines_explained (before + 1) (taken + length line) lines)
      | NotHex ↦ ends (not_hex_line (before + 1)) LineRefused
    ]
    else ends [] TooLong

-- all lines of an input, whether it ends after them or not
abbrev pub explained : Replies
explained at_end lines = lines_explained 0 0 lines

-- a line of which so many bytes have come, after these lines and so many bytes before them, is within the limits so far
abbrev pub line_room : ℕ → Rooms
line_room taken lines begun =
    (begun ≤ max_line) × (taken + length (concat lines) + begun ≤ max_input)

-- the line that says how the program is called
abbrev pub explain_usage : List ℕ
explain_usage = codes "usage: explain < FILE\n"

-- what is written for these words and this input, and the answer: without words the input is read
abbrev pub explanation : List (String Global) → List ℕ → Reply
explanation [] bytes = bytes_reply explained bytes
explanation (word ∷ words) bytes = ends explain_usage Usage

-- what an explainer, which has taken so many lines and bytes, has still to say
abbrev pub explainer_replies : Explainer → Replies
explainer_replies it at_end lines = lines_explained it.lines it.taken lines

-- no more lines than bytes, and these within the limit
pub record IsCounted (it : Explainer) : Type 0 where
  pub lines : it.lines ≤ it.taken
  pub bytes : it.taken ≤ max_input
