-- Replies that are gathered before they are written. Source: this project's own rule.
use Rattle.std.specs.Prelude.{◌≡◌, ◌≢◌, ℕ, List, [], ◌++◌, Option, Some, None, Result, Ok, MatchResult}
use Rattle.std.specs.Io.KnownBytes.{Appends}
use Rattle.xcm_io.specs.Bytes.{IsFront, IsProperFront}
use Rattle.line_serving.specs.Replies.{Reply, ends, then_on}
use Rattle.line_serving.specs.declared.status.Status.{Status}
use Rattle.line_serving.specs.declared.status.Status.TheVariants.{WriteFault, TooLong}

-- The first of these bytes were written and the rest are left, or the write failed with a proper prefix of them written.
abbrev pub HandsOn : {E : Type 0} → List ℕ → List ℕ → Option (List ℕ) → Option (List ℕ) → Result (Unit {0}) E → Type 0
HandsOn bytes left old new result = MatchResult result
    (λ _. (part : List ℕ) × (bytes ≡ part ++ left) × Appends old new part)
    (λ _. (part : List ℕ) × IsProperFront part bytes × Appends old new part)

-- These bytes were written, all of them unless the answer is that a write failed or that memory was refused. Otherwise the answer is
-- the one handed in.
pub record HandsOver {E : Type 0} (bytes : List ℕ) (answer : Status) (old new : Option (List ℕ))
    (result : Result (Option Status) E) : Type 0 where
  pub part : List ℕ
  pub appends : Appends old new part
  pub front : IsFront part bytes
  pub ended : result ≢ Ok None
  pub whole : (status : Status) → result ≡ Ok (Some status) → status ≢ WriteFault
      → (status ≡ answer) × (part ≡ bytes)
  pub short : result ≡ Ok (Some WriteFault)
      → IsProperFront part bytes × (answer ≢ WriteFault)

-- A call went from `before` to `after`, which say what is still to come, while bytes were held that come before. It wrote a prefix of these
-- and of its own text. Where the run goes on the rest is held, and where it is over nothing is, unless a write failed or memory was
-- refused. A write that failed wrote a proper prefix of what was held and of `due`.
pub record Hands {X E : Type 0} (before after : X → Reply) (due held left : List ℕ)
    (old new : Option (List ℕ)) (result : Result (Option Status) E) : Type 0 where
  pub text : List ℕ
  pub part : List ℕ
  pub appends : Appends old new part
  pub told : IsFront part (held ++ text)
  pub front : (more : X) → IsFront text (before more).text
  pub goes_on : result ≡ Ok None
      → (held ++ text ≡ part ++ left) × ((more : X) → before more ≡ then_on text (after more))
  pub ended : (status : Status) → result ≡ Ok (Some status) → status ≢ WriteFault
      → (part ≡ held ++ text) × ((more : X) → before more ≡ ends text status)
  pub short : result ≡ Ok (Some WriteFault) → IsProperFront part (held ++ due)
  pub long : result ≡ Ok (Some TooLong) → text ≡ []
