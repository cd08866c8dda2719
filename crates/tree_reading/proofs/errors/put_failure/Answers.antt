use Rattle.std.proofs.Common.{◌≡◌, ◌∙◌, ℕ, List, [], ◌∷◌, ◌++◌, Option, Some, None, refl, sym, ap, arith}
use Rattle.std.specs.Prelude.{codes, IfSome}
use Rattle.std.proofs.lemmas.List.{append-nil}
use Rattle.scale_codec.specs.Spelling.{optional}
use Rattle.operands.specs.Texts.{error_text}
use Rattle.operands.specs.declared.error.XcmError.{XcmError}
use Rattle.xcm_format.specs.Parts.{failure, FitsFailure}
use Rattle.message_text.specs.Words.{failure_text}
use Rattle.tree_reading.specs.Puts.{AreBytes}
use Rattle.tree_reading.specs.Errors.{some_failure_text}
use Rattle.tree_reading.proofs.Behind.{IsEnd, put_behind}
use Rattle.tree_reading.proofs.Paths.{no_word}
use Rattle.tree_reading.proofs.errors.put_failure.Goals as goal

none : (o : Option (ℕ × XcmError)) → IfSome o FitsFailure → codes "none" ≡ failure_text o → 0 ∷ [] ≡ optional failure o
unfolding failure_text
none None fits e = refl
none (Some f) fits e = absurd (no_word 110 f.0 (codes "one") (codes " " ++ error_text f.1) (omega (arith, fits.0)) (omega arith) e)

some : (text old : List ℕ) → (text ≡ codes "none" → ⊥) → (o : Option (ℕ × XcmError)) → IfSome o FitsFailure → AreBytes (optional failure o) → text ≡ failure_text o
    → IsEnd FitsFailure some_failure_text (λ f. 1 ∷ failure f) (optional failure) o text old old
unfolding failure_text
some text old other None fits bytes e = absurd (other e)
some text old other (Some f) fits bytes e = record { value = f; fits = fits; bytes = bytes; words = e; front = []; put = sym (append-nil old); spelled = refl }

pub returns-in_ok-put_u8-in-none : goal.returns-in_ok-put_u8-in-none
returns-in_ok-put_u8-in-none c = λ o fits bytes e. (refl, c.in_ok-put_u8-in-none.ensures.ok ∙ ap (λ t. c.args.out.now ++ t) (none o fits (sym c.in-none.is ∙ e)))

pub returns-in_default : goal.returns-in_default
returns-in_default c =
    put_behind (λ (o : Option (ℕ × XcmError)). IfSome o FitsFailure) failure_text (optional failure) FitsFailure some_failure_text (λ f. 1 ∷ failure f) c.args.text.now c.args.text.now c.put_some_failure.result c.args.out.now c.args.out.now c.put_some_failure.new.out
    (some c.args.text.now c.args.out.now c.in_default.not-none)
    c.put_some_failure.ensures
