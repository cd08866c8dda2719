-- From the run over a source and a sink to the explanation of the words.
use Rattle.std.proofs.Common.{◌≡◌, inr, ℕ, ◌<◌, List, [], ◌∷◌, length, refl, subst, arith, Option, Result, Ok, Err, IfOk, IfSome, String, Global}
use Rattle.std.specs.Io.KnownBytes.{Appends}
use Rattle.line_serving.specs.Replies.{Reply, Replies, Rooms, IsFault, ends, bytes_reply}
use Rattle.line_serving.specs.Calls.{Finishes}
use Rattle.line_serving.specs.Serving.{Serves}
use Rattle.line_serving.specs.declared.status.Status.{Status}
use Rattle.line_serving.specs.declared.status.Status.TheVariants.{Usage}
use Rattle.xcm_explain.specs.declared.explainer.Explainer.{Explainer}
use Rattle.xcm_explain.specs.Explanations.{explanation, explained, explainer_replies, line_room, explain_usage}
use Rattle.plain_lists.proofs.Lemmas.Facts.{every_some, map_some}

-- a reply has the status and the bytes
told_by : (status : Status) (text : List ℕ) (old new : Option (List ℕ)) (whole : Reply) → whole ≡ ends text status → Appends old new text → (status ≡ whole.status) × Appends old new whole.text
told_by status text old new whole e a = rw e (refl, a)

pub answer_served : {E : Type 0} (replies : Replies) (room : Rooms) (left rest old new : Option (List ℕ)) (result : Result Status E) → Serves replies room left rest old new result
    → IfOk result (λ status. (IsFault status → ⊥) → IfSome left (λ bytes. (status ≡ (bytes_reply replies bytes).status) × Appends old new (bytes_reply replies bytes).text))
answer_served replies room left rest old new (Ok status) s =
    λ n. map_some left _ _ (λ bytes e. told_by status s.text old new (bytes_reply replies bytes) e s.appends) (s.ended status refl n)
answer_served replies room left rest old new (Err e) s = tt

pub answer_written : {E : Type 0} (whole : Reply) (left old new : Option (List ℕ)) (result : Result Status E) → Finishes whole old new result
    → IfOk result (λ status. (IsFault status → ⊥) → IfSome left (λ bytes. (status ≡ whole.status) × Appends old new whole.text))
answer_written whole left old new (Ok status) f =
    λ n. every_some left _ (λ bytes. told_by status f.text old new whole (f.ended status refl (λ w. n (inr w))) f.appends)
answer_written whole left old new (Err e) f = tt

-- an explainer to which no line has come
pub served_first : {E : Type 0} (it : Explainer) (left rest old new : Option (List ℕ)) (result : Result Status E) → it.lines ≡ 0 → it.taken ≡ 0 → Serves (explainer_replies it) (line_room it.taken) left rest old new result
    → Serves explained (line_room 0) left rest old new result
served_first it left rest old new result l t s =
    let first : it ≡ record { lines = 0; taken = 0 } = λ i. record { lines = l i; taken = t i } in
    subst (λ (m : Explainer). Serves (explainer_replies m) (line_room m.taken) left rest old new result) first s

pub answer_words : {E : Type 0} (words : List (String Global)) (left rest old new : Option (List ℕ)) (result : Result Status E) → length words ≡ 0 → Serves explained (line_room 0) left rest old new result
    → IfOk result (λ status. (IsFault status → ⊥) → IfSome left (λ bytes. (status ≡ (explanation words bytes).status) × Appends old new (explanation words bytes).text))
answer_words [] left rest old new result e s = answer_served explained (line_room 0) left rest old new result s
answer_words (word ∷ words) left rest old new result e s = absurd (omega arith)

pub answer_usage : {E : Type 0} (words : List (String Global)) (left old new : Option (List ℕ)) (result : Result Status E) → 0 < length words → Finishes (ends explain_usage Usage) old new result
    → IfOk result (λ status. (IsFault status → ⊥) → IfSome left (λ bytes. (status ≡ (explanation words bytes).status) × Appends old new (explanation words bytes).text))
answer_usage [] left old new result l f = absurd (omega arith)
answer_usage (word ∷ words) left old new result l f = answer_written (ends explain_usage Usage) left old new result f
