use Rattle.std.proofs.Common.{◌≡◌, ◌∙◌, ◌<◌, ◌^◌, ℕ, List, [], ◌∷◌, ◌++◌, Option, refl, sym}
use Rattle.std.specs.Prelude.{codes, decimal, IfSome}
use Rattle.std.proofs.lemmas.List.{append-nil, append_cancel_left}
use Rattle.scale_codec.specs.Spelling.{fixed, optional}
use Rattle.operands.specs.declared.error.XcmError.{XcmError}
use Rattle.operands.specs.declared.version.Version as versions
use Rattle.operands.specs.declared.query.Response.{Response}
use Rattle.operands.specs.declared.query.Response.TheVariants.{Null, Assets, ExecutionResult, Version, PalletsInfo, DispatchResult}
use Rattle.xcm_format.specs.Parts.{failure, FitsFailure, maybe_error, FitsMaybeError, response}
use Rattle.message_text.specs.Words.{failure_text, status_text}
use Rattle.message_text.specs.Fields.{response_name, response_value}
use Rattle.tree_reading.specs.Puts.{AreBytes}
use Rattle.tree_reading.specs.Responses.{FitsValued, valued_text}
use Rattle.tree_reading.proofs.Behind.{unlike, IsEnd, put_behind}
use Rattle.tree_reading.proofs.responses.put_valued.Goals as goal

abbrev Lacks : List ℕ → List ℕ → Type 0
Lacks front text = (rest : List ℕ) → text ≡ front ++ rest → ⊥

of_failed : (v : versions.Version) (text inner old mid : List ℕ) → text ≡ codes "ExecutionResult " ++ inner → mid ≡ old ++ 2 ∷ [] → (x : Response) → FitsValued x → AreBytes (response v x) → text ≡ valued_text x
    → IsEnd (λ (o : Option (ℕ × XcmError)). IfSome o FitsFailure) failure_text (optional failure) (response v) x inner old mid
unfolding response_name response_value
of_failed v text inner old mid is put Null fits all e = absurd fits
of_failed v text inner old mid is put (Assets list) fits all e = absurd fits
of_failed v text inner old mid is put (PalletsInfo list) fits all e = absurd fits
of_failed v text inner old mid is put (ExecutionResult o) fits all e = record { value = o; fits = fits; bytes = all.1; words = append_cancel_left (codes "ExecutionResult ") inner (failure_text o) (sym is ∙ e); front = 2 ∷ []; put = put; spelled = refl }
of_failed v text inner old mid is put (Version n) fits all e = absurd (unlike (codes "ExecutionResult " ++ inner) (codes "Version " ++ decimal n) 0 (sym is ∙ e) refl)
of_failed v text inner old mid is put (DispatchResult s) fits all e = absurd (unlike (codes "ExecutionResult " ++ inner) (codes "DispatchResult " ++ status_text s) 0 (sym is ∙ e) refl)

of_version : (v : versions.Version) (text inner old : List ℕ) → text ≡ codes "Version " ++ inner → (x : Response) → FitsValued x → AreBytes (response v x) → text ≡ valued_text x
    → IsEnd (λ n. n < 2 ^ 32) decimal (λ n. 3 ∷ fixed 4 n) (response v) x inner old old
unfolding response_name response_value
of_version v text inner old is Null fits all e = absurd fits
of_version v text inner old is (Assets list) fits all e = absurd fits
of_version v text inner old is (PalletsInfo list) fits all e = absurd fits
of_version v text inner old is (ExecutionResult o) fits all e = absurd (unlike (codes "Version " ++ inner) (codes "ExecutionResult " ++ failure_text o) 0 (sym is ∙ e) refl)
of_version v text inner old is (Version n) fits all e = record { value = n; fits = fits; bytes = all; words = append_cancel_left (codes "Version ") inner (decimal n) (sym is ∙ e); front = []; put = sym (append-nil old); spelled = refl }
of_version v text inner old is (DispatchResult s) fits all e = absurd (unlike (codes "Version " ++ inner) (codes "DispatchResult " ++ status_text s) 0 (sym is ∙ e) refl)

of_status : (v : versions.Version) (text inner old mid : List ℕ) → text ≡ codes "DispatchResult " ++ inner → mid ≡ old ++ 5 ∷ [] → (x : Response) → FitsValued x → AreBytes (response v x) → text ≡ valued_text x
    → IsEnd FitsMaybeError status_text maybe_error (response v) x inner old mid
unfolding response_name response_value
of_status v text inner old mid is put Null fits all e = absurd fits
of_status v text inner old mid is put (Assets list) fits all e = absurd fits
of_status v text inner old mid is put (PalletsInfo list) fits all e = absurd fits
of_status v text inner old mid is put (ExecutionResult o) fits all e = absurd (unlike (codes "DispatchResult " ++ inner) (codes "ExecutionResult " ++ failure_text o) 0 (sym is ∙ e) refl)
of_status v text inner old mid is put (Version n) fits all e = absurd (unlike (codes "DispatchResult " ++ inner) (codes "Version " ++ decimal n) 0 (sym is ∙ e) refl)
of_status v text inner old mid is put (DispatchResult s) fits all e = record { value = s; fits = fits; bytes = all.1; words = append_cancel_left (codes "DispatchResult ") inner (status_text s) (sym is ∙ e); front = 5 ∷ []; put = put; spelled = refl }

none_of : (text : List ℕ) → Lacks (codes "ExecutionResult ") text → Lacks (codes "Version ") text → Lacks (codes "DispatchResult ") text → (x : Response) → FitsValued x → text ≡ valued_text x → ⊥
unfolding response_name response_value
none_of text a b c Null fits e = fits
none_of text a b c (Assets list) fits e = fits
none_of text a b c (PalletsInfo list) fits e = fits
none_of text a b c (ExecutionResult o) fits e = a (failure_text o) e
none_of text a b c (Version n) fits e = b (decimal n) e
none_of text a b c (DispatchResult s) fits e = c (status_text s) e

pub returns-in-Some : goal.returns-in-Some
returns-in-Some c = λ v.
    put_behind FitsValued valued_text (response v) (λ (o : Option (ℕ × XcmError)). IfSome o FitsFailure) failure_text (optional failure) c.args.text.now c.in-Some.failed.now c.put_failure.result c.args.out.now c.put_u8.new.self c.put_failure.new.out
    (of_failed v c.args.text.now c.in-Some.failed.now c.args.out.now c.put_u8.new.self c.in-Some.ensures c.in_ok-put_u8.ensures.ok)
    c.put_failure.ensures

pub returns-in-Some-after : goal.returns-in-Some-after
returns-in-Some-after c = λ v.
    put_behind FitsValued valued_text (response v) (λ n. n < 2 ^ 32) decimal (λ n. 3 ∷ fixed 4 n) c.args.text.now c.in-Some-after.version.now c.put_version.result c.args.out.now c.args.out.now c.put_version.new.out
    (of_version v c.args.text.now c.in-Some-after.version.now c.args.out.now c.in-Some-after.ensures)
    c.put_version.ensures

pub returns-in_ok-put_u8-in-Some-after-2 : goal.returns-in_ok-put_u8-in-Some-after-2
returns-in_ok-put_u8-in-Some-after-2 c = λ v.
    put_behind FitsValued valued_text (response v) FitsMaybeError status_text maybe_error c.args.text.now c.in-Some-after-2.status.now c.put_status.result c.args.out.now c.put_u8-in-Some-after-2.new.self c.put_status.new.out
    (of_status v c.args.text.now c.in-Some-after-2.status.now c.args.out.now c.put_u8-in-Some-after-2.new.self c.in-Some-after-2.ensures c.in_ok-put_u8-in-Some-after-2.ensures.ok)
    c.put_status.ensures

pub returns-in-None : goal.returns-in-None
returns-in-None c = λ v x fits all e. absurd (none_of c.args.text.now c.in_default.ensures c.in_default-after.ensures c.in-None.ensures x fits e)
