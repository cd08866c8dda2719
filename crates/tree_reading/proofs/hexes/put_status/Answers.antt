use Rattle.std.proofs.Common.{◌≡◌, ◌∙◌, ℕ, List, [], ◌∷◌, ◌++◌, sym, refl, ap}
use Rattle.std.specs.Prelude.{codes}
use Rattle.std.proofs.lemmas.List.{append-nil}
use Rattle.operands.specs.declared.status.MaybeError.{MaybeError}
use Rattle.operands.specs.declared.status.MaybeError.TheVariants.{Success, Error, TruncatedError}
use Rattle.location_wire.specs.Texts.{hex_text}
use Rattle.xcm_format.specs.Parts.{maybe_error, FitsMaybeError}
use Rattle.message_text.specs.Words.{status_text}
use Rattle.tree_reading.specs.Puts.{AreBytes, FitsCallError}
use Rattle.tree_reading.proofs.Behind.{unlike, IsEnd, put_behind}
use Rattle.tree_reading.proofs.hexes.put_status.Goals as goal

success : (x : MaybeError) → codes "Success" ≡ status_text x → 0 ∷ [] ≡ maybe_error x
unfolding status_text
success Success e = refl
success (Error b) e = absurd (unlike (codes "Success") (codes "Error " ++ hex_text b) 0 e refl)
success (TruncatedError b) e = absurd (unlike (codes "Success") (codes "TruncatedError " ++ hex_text b) 0 e refl)

failed : (text old : List ℕ) → (text ≡ codes "Success" → ⊥) → (x : MaybeError) → FitsMaybeError x → AreBytes (maybe_error x) → text ≡ status_text x → IsEnd FitsCallError status_text maybe_error maybe_error x text old old
unfolding status_text
failed text old other Success fits all e = absurd (other e)
failed text old other (Error b) fits all e = record { value = Error b; fits = tt; bytes = all; words = e; front = []; put = sym (append-nil old); spelled = refl }
failed text old other (TruncatedError b) fits all e = record { value = TruncatedError b; fits = tt; bytes = all; words = e; front = []; put = sym (append-nil old); spelled = refl }

pub returns-in_ok-put_u8-in-Success : goal.returns-in_ok-put_u8-in-Success
returns-in_ok-put_u8-in-Success c = λ x fits all e. (refl, c.in_ok-put_u8-in-Success.ensures.ok ∙ ap (λ t. c.args.out.now ++ t) (success x (sym c.in-Success.is ∙ e)))

pub returns-in_default : goal.returns-in_default
returns-in_default c =
    put_behind FitsMaybeError status_text maybe_error FitsCallError status_text maybe_error c.args.text.now c.args.text.now c.put_failed.result c.args.out.now c.args.out.now c.put_failed.new.out
    (failed c.args.text.now c.args.out.now c.in_default.not-Success)
    c.put_failed.ensures
