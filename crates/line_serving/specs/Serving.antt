-- What a run over a source and a sink did. `replies` says what is replied to the lines of an input, `room` how many bytes of a line may come after some of
-- them. Source: this project's own rule.
use Rattle.std.specs.Prelude.{◌≡◌, ◌⊎◌, ◌<◌, ◌≤◌, ℕ, List, [], ◌∷◌, ◌++◌, length, true, false, Option, Result, Ok, IfSome}
use Rattle.std.specs.List.{concat}
use Rattle.std.specs.Io.KnownBytes.{Appends, Consumes, IsAtEnd}
use Rattle.xcm_io.specs.Bytes.{IsFront, IsProperFront}
use Rattle.input_lines.specs.Lines.{lines_of, ends_with}
use Rattle.line_serving.specs.Replies.{Replies, Rooms, IsFault, bytes_reply, whole_lines, so_far, ends}
use Rattle.line_serving.specs.declared.status.Status.{Status}
use Rattle.line_serving.specs.declared.status.Status.TheVariants.{Done, ReadFault, WriteFault, TooLong}

-- The write failed in the report of a line, the first whose report isn't written whole: what is written has the report of all
-- lines before it, and a proper prefix of that up to its own end. The line is whole, or nothing is left to take. Fewer than 65,536 bytes
-- after its end were taken.
pub record FailedInLine (replies : Replies) (taken text : List ℕ)
    (left : Option (List ℕ)) : Type 0 where
  pub before : List (List ℕ)
  pub line : List ℕ
  pub behind : List (List ℕ)
  pub lines : lines_of taken ≡ before ++ line ∷ behind
  pub reported : IsFront (replies false before).text text
  pub short : IsProperFront text (replies false (before ++ line ∷ [])).text
  pub last : (ends_with 10 line ≡ true) ⊎ (IsAtEnd left × (behind ≡ []))
  pub near : length (concat behind) < 65536

-- The write failed in what the end of the input calls for. Nothing is left to take.
pub record FailedAtEnd (replies : Replies) (taken text : List ℕ)
    (left : Option (List ℕ)) : Type 0 where
  pub reported : IsFront (replies false (lines_of taken)).text text
  pub short : IsProperFront text (bytes_reply replies taken).text
  pub ended : IsAtEnd left

-- What is written is the report of the first lines, so many, none of which is refused or past a limit.
pub record StoppedAtLimit (replies : Replies) (taken text : List ℕ) : Type 0 where
  pub before : List (List ℕ)
  pub behind : List (List ℕ)
  pub lines : lines_of taken ≡ before ++ behind
  pub reported : replies false before ≡ ends text Done

-- Nothing is read after what decides how the run ends. Of what was taken the last read gave at most 65,536 bytes. What came before it
-- decides nothing: of its whole lines none is refused or past a limit, all that is reported of them is written, and there is room for what
-- there is of the line that is begun after them.
pub record ReadInTime (replies : Replies) (room : Rooms) (taken text : List ℕ) : Type 0 where
  pub before : List ℕ
  pub piece : List ℕ
  pub parts : taken ≡ before ++ piece
  pub few : length piece ≤ 65536
  pub begun : List ℕ
  pub lines : before ≡ concat (whole_lines before) ++ begun
  pub within : room (whole_lines before) (length begun)
  pub told : List ℕ
  pub undecided : so_far replies before ≡ ends told Done
  pub written : IsFront told text

-- These bytes were taken and this text was written, a prefix of their report, and of that of the whole input, whatever of it wasn't taken. It is
-- the whole of the input's report, and the answer its fate, unless source or sink failed. With ReadFault the whole lines taken pass no limit and none is refused, and the
-- text is exactly their report. With WriteFault the failure is in the first line whose report isn't written whole, and little
-- was taken after it. With TooLong the text is exactly the report of lines that are within the limits. Whatever the answer, nothing was read after
-- what decides it.
pub record Serves {E : Type 0} (replies : Replies) (room : Rooms)
    (left rest old new : Option (List ℕ)) (result : Result Status E) : Type 0 where
  pub taken : List ℕ
  pub consumed : Consumes left rest taken
  pub text : List ℕ
  pub appends : Appends old new text
  pub front : IsFront text (bytes_reply replies taken).text
  pub whole : IfSome left (λ bytes. IsFront text (bytes_reply replies bytes).text)
  pub ended : (status : Status) → result ≡ Ok status → (IsFault status → ⊥)
      → IfSome left (λ bytes. bytes_reply replies bytes ≡ ends text status)
  pub read_failed : result ≡ Ok ReadFault → so_far replies taken ≡ ends text Done
  pub write_failed : result ≡ Ok WriteFault
      → FailedInLine replies taken text rest ⊎ FailedAtEnd replies taken text rest
  pub past_limit : result ≡ Ok TooLong → StoppedAtLimit replies taken text
  pub in_time : ReadInTime replies room taken text
