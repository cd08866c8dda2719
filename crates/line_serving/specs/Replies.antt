-- What is written for an input that is taken a line at a time, and how it ends. Source: this project's own rule.
use Rattle.std.specs.Prelude.{◌≡◌, ◌⊎◌, ℕ, ◌+◌, nat_le, ◌&&◌, List, ◌++◌, length, Bool, true, false, filter}
use Rattle.input_lines.specs.Lines.{lines_of, without_feed, ends_with}
use Rattle.line_serving.specs.declared.status.Status.{Status}
use Rattle.line_serving.specs.declared.status.Status.TheVariants.{Done, Usage, NetworkRefused, LineRefused, ReadFault, WriteFault, TooLong}

-- what is written, and the answer
pub record Reply : Type 0 where
  pub text : List ℕ
  pub status : Status

abbrev pub ends : List ℕ → Status → Reply
ends text status = record { text = text; status = status }

-- this text, and then the rest
abbrev pub then_on : List ℕ → Reply → Reply
then_on text rest = record { text = text ++ rest.text; status = rest.status }

-- the number that a program ends with
abbrev pub code_of : Status → ℕ
code_of Done = 0
code_of Usage = 2
code_of NetworkRefused = 3
code_of LineRefused = 4
code_of ReadFault = 5
code_of WriteFault = 6
code_of TooLong = 7

-- the source or the sink failed
abbrev pub IsFault : Status → Type 0
IsFault status = (status ≡ ReadFault) ⊎ (status ≡ WriteFault)

-- ---- limits, in bytes

-- of an input
abbrev pub max_input : ℕ
max_input = 67108864

-- of a line, its line feed left out
abbrev pub max_line : ℕ
max_line = 262144

-- the line is within its limit, and the input up to its end is, with this many bytes taken before it
abbrev pub fits_limits : ℕ → List ℕ → Bool
fits_limits taken line =
    nat_le (length (without_feed line)) max_line && nat_le (taken + length line) max_input

-- ---- replies to lines

-- What is replied to these lines, at whose end the input ends or not. Where the input doesn't end, the text is what is written for them whatever
-- lines come after, and Done says that so far no limit is passed and nothing is refused.
abbrev pub Replies : Type 0
Replies = Bool → List (List ℕ) → Reply

-- so many bytes of a line may come after these lines
abbrev pub Rooms : Type 1
Rooms = List (List ℕ) → ℕ → Type 0

-- a whole input
abbrev pub bytes_reply : Replies → List ℕ → Reply
bytes_reply replies bytes = replies true (lines_of bytes)

-- the lines of these bytes that have their line feed
abbrev pub whole_lines : List ℕ → List (List ℕ)
whole_lines bytes = filter (ends_with 10) (lines_of bytes)

-- the whole lines of these bytes, where more may come
abbrev pub so_far : Replies → List ℕ → Reply
so_far replies bytes = replies false (whole_lines bytes)
