-- What calls did with lines and pieces of an input. Source: this project's own rule.
use Rattle.std.specs.Prelude.{◌≡◌, ◌≢◌, List, ℕ, Option, Some, None, Result, Ok, IfSome, codes}
use Rattle.std.specs.Io.KnownBytes.{Appends}
use Rattle.xcm_io.specs.Bytes.{IsFront}
use Rattle.line_serving.specs.Replies.{Reply, IsFault, ends, then_on}
use Rattle.line_serving.specs.declared.status.Status.{Status}
use Rattle.line_serving.specs.declared.status.Status.TheVariants.{WriteFault}
use Rattle.xcm_compose.specs.Replies.{IsComposition}

-- what may come from here on
abbrev pub Ways : Type 1
Ways = Reply → Type 0

-- the text is a prefix of what may come
abbrev pub MayBegin : List ℕ → Ways → Type 0
MayBegin text IsWay = (whole : Reply) × IsWay whole × IsFront text whole.text

-- A call went from `Before` to `After`, which say what may come, whatever is still read. What it wrote may be a prefix of that. Where it answers
-- `None` the run goes on, and where it answers a status other than a write fault the run is over.
pub record Proceeds {X E : Type 0} (Before After : X → Ways) (old new : Option (List ℕ))
    (result : Result (Option Status) E) : Type 0 where
  pub text : List ℕ
  pub appends : Appends old new text
  pub front : (more : X) → MayBegin text (Before more)
  pub goes_on : result ≡ Ok None → (more : X) (rest : Reply) → After more rest
      → Before more (then_on text rest)
  pub ended : (status : Status) → result ≡ Ok (Some status) → status ≢ WriteFault → (more : X)
      → Before more (ends text status)

-- A call that ends the run. What it wrote may be a prefix of what may come, and is all of it unless a write failed.
pub record Concludes {E : Type 0} (IsWay : Ways) (old new : Option (List ℕ))
    (result : Result Status E) : Type 0 where
  pub text : List ℕ
  pub appends : Appends old new text
  pub front : MayBegin text IsWay
  pub ended : (status : Status) → result ≡ Ok status → status ≢ WriteFault → IsWay (ends text status)

-- A run over a source and a sink. What was written is a prefix of what may be written for the input; and all of it, with the answer for it, unless
-- source or sink failed or memory was refused.
pub record Composes {E : Type 0} (left old new : Option (List ℕ))
    (result : Result Status E) : Type 0 where
  pub text : List ℕ
  pub appends : Appends old new text
  pub front : IfSome left (λ bytes. MayBegin text (IsComposition bytes))
  pub ended : (status : Status) → result ≡ Ok status → (IsFault status → ⊥)
      → IfSome left (λ bytes. IsComposition bytes (ends text status))

-- the line that says how the program is called
abbrev pub compose_usage : List ℕ
compose_usage = codes "usage: compose < FILE\n"
