-- A machine over pieces of its input: whatever pieces the lines come in. `replies` says what each machine has still to reply, `rooms` how
-- many bytes of a further line may come. Source: this project's own rule.
use Rattle.std.specs.Prelude.{◌≡◌, ◌≢◌, ◌⊎◌, ◌≤◌, ℕ, List, [], ◌∷◌, ◌++◌, length, Bool, true, false, Option, Some, None, Result, Ok}
use Rattle.std.specs.Io.KnownBytes.{Appends}
use Rattle.xcm_io.specs.Bytes.{IsFront, IsProperFront}
use Rattle.input_lines.specs.Lines.{lines_of, ends_with, HasNoFeed}
use Rattle.line_serving.specs.Replies.{Replies, Rooms, ends, then_on, max_input}
use Rattle.line_serving.specs.declared.feeder.Feeder.{Feeder}
use Rattle.line_serving.specs.declared.status.Status.{Status}
use Rattle.line_serving.specs.declared.status.Status.TheVariants.{WriteFault, ReadFault, TooLong, Done}

-- ---- lines of bytes that are taken whole

-- each of them has its line feed
abbrev pub AllWhole : List (List ℕ) → Type 0
AllWhole [] = Unit {0}
AllWhole (line ∷ lines) = (ends_with 10 line ≡ true) × AllWhole lines

-- Of these bytes some whole lines were taken and this text was written for them. Whatever comes, the rest of the bytes and what
-- the machine has then still to reply are left.
pub record Flows {M : Type 0} (replies : M → Replies) (rooms : M → Rooms) (machine now : M)
    (bytes rest : List ℕ) (old new : Option (List ℕ)) : Type 0 where
  pub took : List (List ℕ)
  pub text : List ℕ
  pub appends : Appends old new text
  pub cut : (more : List ℕ) → lines_of (bytes ++ more) ≡ took ++ lines_of (rest ++ more)
  pub whole : AllWhole took
  pub goes : (at_end : Bool) (lines : List (List ℕ)) → replies machine at_end (took ++ lines)
      ≡ then_on text (replies now at_end lines)
  pub room : (lines : List (List ℕ)) (begun : ℕ) → rooms now lines begun
      → rooms machine (took ++ lines) begun

-- The text ends inside the report of one of the lines, the first whose report isn't written whole. That line is whole, or, where the
-- input ends with the bytes, the last.
pub record StopsInLine (replies : Replies) (at_end : Bool) (bytes text : List ℕ) : Type 0 where
  pub before : List (List ℕ)
  pub line : List ℕ
  pub behind : List (List ℕ)
  pub lines : lines_of bytes ≡ before ++ line ∷ behind
  pub reported : IsFront (replies false before).text text
  pub short : IsProperFront text (replies false (before ++ line ∷ [])).text
  pub last : (ends_with 10 line ≡ true) ⊎ ((at_end ≡ true) × (behind ≡ []))

-- The text is the report of the first lines, so many, none of which is refused or past a limit.
pub record StopsAtLimit (replies : Replies) (bytes text : List ℕ) : Type 0 where
  pub before : List (List ℕ)
  pub behind : List (List ℕ)
  pub lines : lines_of bytes ≡ before ++ behind
  pub reported : replies false before ≡ ends text Done

-- The text ends inside what the end of the input calls for.
pub record StopsAtEnd (replies : Replies) (bytes text : List ℕ) : Type 0 where
  pub reported : IsFront (replies false (lines_of bytes)).text text
  pub short : IsProperFront text (replies true (lines_of bytes)).text

-- A call on these bytes that ended the run, or gave up.
pub record StopsRun {E : Type 0} (replies : Replies) (bytes : List ℕ) (old new : Option (List ℕ))
    (result : Result (Option Status) E) : Type 0 where
  pub text : List ℕ
  pub appends : Appends old new text
  pub front : (at_end : Bool) (more : List ℕ)
      → IsFront text (replies at_end (lines_of (bytes ++ more))).text
  pub ended : (status : Status) → result ≡ Ok (Some status) → status ≢ WriteFault
      → (at_end : Bool) (more : List ℕ) → replies at_end (lines_of (bytes ++ more))
      ≡ ends text status
  pub short : result ≡ Ok (Some WriteFault) → StopsInLine replies false bytes text
  pub long : result ≡ Ok (Some TooLong) → StopsAtLimit replies bytes text

-- what a call did that takes the whole lines of some bytes
pub record TakesLines {M E : Type 0} (replies : M → Replies) (rooms : M → Rooms) (machine now : M)
    (bytes rest : List ℕ) (old new : Option (List ℕ))
    (result : Result (Option Status) E) : Type 0 where
  pub going : result ≡ Ok None → Flows replies rooms machine now bytes rest old new
  pub over : result ≢ Ok None → StopsRun (replies machine) bytes old new result

-- The run is over at the end of its input, which ends with these bytes.
pub record EndsRun {E : Type 0} (replies : Replies) (bytes : List ℕ) (old new : Option (List ℕ))
    (result : Result Status E) : Type 0 where
  pub text : List ℕ
  pub appends : Appends old new text
  pub front : IsFront text (replies true (lines_of bytes)).text
  pub ended : (status : Status) → result ≡ Ok status → status ≢ WriteFault
      → replies true (lines_of bytes) ≡ ends text status
  pub short : result ≡ Ok WriteFault
      → StopsInLine replies true bytes text ⊎ StopsAtEnd replies bytes text
  pub long : result ≡ Ok TooLong → StopsAtLimit replies bytes text
  pub no_read : result ≢ Ok ReadFault

-- a machine as its calls leave it: what is pending is short, and no whole line
pub record IsFed {M : Type 0} (IsReady : M → Type 0) (feeder : Feeder M) : Type 0 where
  pub ready : IsReady feeder.machine
  pub short : length feeder.pending.items ≤ max_input
  pub unended : HasNoFeed feeder.pending.items
