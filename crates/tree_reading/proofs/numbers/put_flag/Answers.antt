use Rattle.std.proofs.Common.{◌≡◌, ◌∙◌, Bool, true, false, List, ℕ, ◌∷◌, [], ◌++◌, refl, sym, ap}
use Rattle.std.specs.Prelude.{codes}
use Rattle.scale_codec.specs.Spelling.{flag}
use Rattle.message_text.specs.Words.{flag_text}
use Rattle.tree_reading.proofs.numbers.put_flag.Goals as goal

true_is : (x : Bool) → codes "true" ≡ flag_text x → 1 ∷ [] ≡ flag x
unfolding flag_text
true_is true e = refl
true_is false e = absurd (cc e)

false_is : (x : Bool) → codes "false" ≡ flag_text x → 0 ∷ [] ≡ flag x
unfolding flag_text
false_is true e = absurd (cc e)
false_is false e = refl

other : (text : List ℕ) (x : Bool) → (text ≡ codes "true" → ⊥) → (text ≡ codes "false" → ⊥) → text ≡ flag_text x → ⊥
unfolding flag_text
other text true a b e = a e
other text false a b e = b e

pub returns-in_default : goal.returns-in_default
returns-in_default c = λ x fits bytes e. absurd (other c.args.text.now x c.in_default.not-true c.in_default.not-false e)

pub returns-in_ok-put_u8-in-true : goal.returns-in_ok-put_u8-in-true
returns-in_ok-put_u8-in-true c = λ x fits bytes e. (refl, c.in_ok-put_u8-in-true.ensures.ok ∙ ap (λ t. c.args.out.now ++ t) (true_is x (sym c.in-true.is ∙ e)))

pub returns-in_ok-put_u8-in-false : goal.returns-in_ok-put_u8-in-false
returns-in_ok-put_u8-in-false c = λ x fits bytes e. (refl, c.in_ok-put_u8-in-false.ensures.ok ∙ ap (λ t. c.args.out.now ++ t) (false_is x (sym c.in-false.is ∙ e)))
