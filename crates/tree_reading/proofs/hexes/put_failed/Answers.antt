use Rattle.std.proofs.Common.{◌≡◌, ◌∙◌, ℕ, List, [], ◌∷◌, ◌++◌, sym, refl}
use Rattle.std.specs.Prelude.{codes, ⊤}
use Rattle.std.proofs.lemmas.List.{append-nil, append_cancel_left}
use Rattle.operands.specs.declared.status.MaybeError.{MaybeError}
use Rattle.operands.specs.declared.status.MaybeError.TheVariants.{Success, Error, TruncatedError}
use Rattle.location_wire.specs.Texts.{hex_text}
use Rattle.xcm_format.specs.Parts.{bytes, maybe_error}
use Rattle.message_text.specs.Words.{status_text}
use Rattle.tree_reading.specs.Puts.{AreBytes, FitsCallError}
use Rattle.tree_reading.proofs.Behind.{unlike, IsEnd, put_behind}
use Rattle.tree_reading.proofs.hexes.put_failed.Goals as goal

whole : (text digits old : List ℕ) → text ≡ codes "Error " ++ digits → (x : MaybeError) → FitsCallError x → AreBytes (maybe_error x) → text ≡ status_text x
    → IsEnd (λ (b : List ℕ). ⊤) hex_text (λ b. 1 ∷ bytes b) maybe_error x digits old old
unfolding status_text
whole text digits old is Success fits all e = absurd fits
whole text digits old is (Error b) fits all e = record { value = b; fits = tt; bytes = all; words = append_cancel_left (codes "Error ") digits (hex_text b) (sym is ∙ e); front = []; put = sym (append-nil old); spelled = refl }
whole text digits old is (TruncatedError b) fits all e = absurd (unlike (codes "Error " ++ digits) (codes "TruncatedError " ++ hex_text b) 0 (sym is ∙ e) refl)

truncated : (text digits old : List ℕ) → ((rest : List ℕ) → text ≡ codes "Error " ++ rest → ⊥) → text ≡ codes "TruncatedError " ++ digits → (x : MaybeError) → FitsCallError x → AreBytes (maybe_error x) → text ≡ status_text x
    → IsEnd (λ (b : List ℕ). ⊤) hex_text (λ b. 2 ∷ bytes b) maybe_error x digits old old
unfolding status_text
truncated text digits old one is Success fits all e = absurd fits
truncated text digits old one is (Error b) fits all e = absurd (one (hex_text b) e)
truncated text digits old one is (TruncatedError b) fits all e = record { value = b; fits = tt; bytes = all; words = append_cancel_left (codes "TruncatedError ") digits (hex_text b) (sym is ∙ e); front = []; put = sym (append-nil old); spelled = refl }

neither : (text : List ℕ) → ((rest : List ℕ) → text ≡ codes "Error " ++ rest → ⊥) → ((rest : List ℕ) → text ≡ codes "TruncatedError " ++ rest → ⊥) → (x : MaybeError) → FitsCallError x → text ≡ status_text x → ⊥
unfolding status_text
neither text one two Success fits e = fits
neither text one two (Error b) fits e = one (hex_text b) e
neither text one two (TruncatedError b) fits e = two (hex_text b) e

pub returns-in-Some : goal.returns-in-Some
returns-in-Some c =
    put_behind FitsCallError status_text maybe_error (λ (b : List ℕ). ⊤) hex_text (λ b. 1 ∷ bytes b) c.args.text.now c.in-Some.digits.now c.put_call_error.result c.args.out.now c.args.out.now c.put_call_error.new.out
    (whole c.args.text.now c.in-Some.digits.now c.args.out.now c.in-Some.ensures)
    c.put_call_error.ensures

pub returns-in-Some-after : goal.returns-in-Some-after
returns-in-Some-after c =
    put_behind FitsCallError status_text maybe_error (λ (b : List ℕ). ⊤) hex_text (λ b. 2 ∷ bytes b) c.args.text.now c.in-Some-after.digits.now c.put_call_error-in-Some-after.result c.args.out.now c.args.out.now c.put_call_error-in-Some-after.new.out
    (truncated c.args.text.now c.in-Some-after.digits.now c.args.out.now c.in_default.ensures c.in-Some-after.ensures)
    c.put_call_error-in-Some-after.ensures

pub returns-in-None : goal.returns-in-None
returns-in-None c = λ x fits all e. absurd (neither c.args.text.now c.in_default.ensures c.in-None.ensures x fits e)
