-- How a call goes on with what is still to come. Source: this project's own rule.
use Rattle.std.specs.Prelude.{◌≡◌, ◌≢◌, ◌⊎◌, ℕ, ◌≤◌, List, [], Option, Some, None, Result, Ok}
use Rattle.std.specs.Io.KnownBytes.{Appends}
use Rattle.xcm_io.specs.Bytes.{IsFront, IsProperFront}
use Rattle.xcm_io.specs.Causes.{Rose}
use Rattle.line_serving.specs.Replies.{Reply, ends, then_on}
use Rattle.line_serving.specs.declared.status.Status.{Status}
use Rattle.line_serving.specs.declared.status.Status.TheVariants.{WriteFault, ReadFault, TooLong, Done, Usage}

-- the text was written and this is the answer, or the write failed with a proper prefix of it written
pub record Writes (text : List ℕ) (answer : Option Status) (old new : Option (List ℕ))
    (result : Option Status) : Type 0 where
  pub part : List ℕ
  pub appends : Appends old new part
  pub whole : ((result ≡ answer) × (part ≡ text))
      ⊎ ((result ≡ Some WriteFault) × IsProperFront part text)

-- A call went from `before` to `after`, which say what is still to come. What it wrote is a prefix of that. Where it answers
-- `None` the run goes on, and where it answers a status other than a fault the run is over. A write that failed wrote a proper
-- prefix of `due`. TooLong is answered before anything is written.
pub record Advances {X E : Type 0} (before after : X → Reply) (due : List ℕ)
    (old new : Option (List ℕ)) (result : Result (Option Status) E) : Type 0 where
  pub text : List ℕ
  pub appends : Appends old new text
  pub front : (more : X) → IsFront text (before more).text
  pub goes_on : result ≡ Ok None → (more : X) → before more ≡ then_on text (after more)
  pub ended : (status : Status) → result ≡ Ok (Some status) → status ≢ WriteFault → (more : X)
      → before more ≡ ends text status
  pub short : result ≡ Ok (Some WriteFault) → IsProperFront text due
  pub long : result ≡ Ok (Some TooLong) → text ≡ []

-- The count has not fallen, and a call whose answer is a write fault has raised it. It answers neither what the
-- source nor what the words call for, nor that all is done.
pub record HasWriteCause {E : Type 0} (old new : ℕ)
    (result : Result (Option Status) E) : Type 0 where
  pub later : old ≤ new
  pub failed : result ≡ Ok (Some WriteFault) → Rose old new
  pub no_read : result ≢ Ok (Some ReadFault)
  pub no_usage : result ≢ Ok (Some Usage)
  pub no_done : result ≢ Ok (Some Done)

-- At the end of the input the run is over. What was written is a prefix of what was still to come, and all of it unless a write
-- failed, which wrote a proper prefix of it.
pub record Finishes {E : Type 0} (rest : Reply) (old new : Option (List ℕ))
    (result : Result Status E) : Type 0 where
  pub text : List ℕ
  pub appends : Appends old new text
  pub front : IsFront text rest.text
  pub ended : (status : Status) → result ≡ Ok status → status ≢ WriteFault → rest ≡ ends text status
  pub short : result ≡ Ok WriteFault → IsProperFront text rest.text
  pub long : result ≢ Ok TooLong
  pub no_read : result ≢ Ok ReadFault
