-- What a call leaves in a caller's buffer. This project's own rule.
use Rattle.std.specs.Prelude.{◌≡◌, ℕ, nat_le, min, List, ◌++◌, length, take, drop, if◌then◌else◌}
use Rattle.xcm_io.specs.Bytes.{IsFront}

-- so many bytes of a text fit into a buffer
abbrev pub fitting : List ℕ → List ℕ → ℕ
fitting text buffer = min (length buffer) (length text)

-- the text at the front of a buffer, as far as there is room; what is after it stays
abbrev pub filled : List ℕ → List ℕ → List ℕ
filled text buffer = take (fitting text buffer) text ++ drop (fitting text buffer) buffer

-- the answer of a call that has this text and this number to tell: the number, or 6 where the text doesn't fit
abbrev pub call_status : List ℕ → List ℕ → ℕ → ℕ
call_status buffer text number = if nat_le (length text) (length buffer) then number else 6

-- The text is told: the buffer has it as far as there is room, `needed` is its length, and the answer says whether it fits.
pub record Tells (text : List ℕ) (number : ℕ) (old new : List ℕ) (needed answer : ℕ) : Type 0 where
  pub buffer : new ≡ filled text old
  pub count : needed ≡ length text
  pub answered : answer ≡ call_status old text number

-- A prefix of the text is told in the same way.
pub record TellsFront (text : List ℕ) (old new : List ℕ) (needed : ℕ) : Type 0 where
  pub front : List ℕ
  pub is : IsFront front text
  pub buffer : new ≡ filled front old
  pub count : needed ≡ length front
