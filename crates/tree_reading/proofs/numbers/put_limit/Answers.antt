use Rattle.std.proofs.Common.{◌≡◌, ◌∙◌, ℕ, List, [], ◌∷◌, ◌++◌, sym, refl, ap}
use Rattle.std.specs.Prelude.{codes}
use Rattle.std.proofs.lemmas.List.{append-nil}
use Rattle.operands.specs.Texts.{weight_text}
use Rattle.operands.specs.declared.weight.WeightLimit.{WeightLimit}
use Rattle.operands.specs.declared.weight.WeightLimit.TheVariants.{Unlimited, Limited}
use Rattle.xcm_format.specs.Parts.{weight, FitsWeight, weight_limit, FitsLimit}
use Rattle.message_text.specs.Words.{limit_text}
use Rattle.tree_reading.specs.Puts.{AreBytes}
use Rattle.tree_reading.proofs.Behind.{unlike, IsEnd, put_behind}
use Rattle.tree_reading.proofs.numbers.put_limit.Goals as goal

none : (x : WeightLimit) → codes "Unlimited" ≡ limit_text x → 0 ∷ [] ≡ weight_limit x
unfolding limit_text
none Unlimited e = refl
none (Limited w) e = absurd (unlike (codes "Unlimited") (codes "Limited " ++ weight_text w) 0 e refl)

some : (text old : List ℕ) → (text ≡ codes "Unlimited" → ⊥) → (x : WeightLimit) → FitsLimit x → AreBytes (weight_limit x) → text ≡ limit_text x
    → IsEnd FitsWeight (λ w. codes "Limited " ++ weight_text w) (λ w. 1 ∷ weight w) weight_limit x text old old
unfolding limit_text
some text old other Unlimited fits bytes e = absurd (other e)
some text old other (Limited w) fits bytes e = record { value = w; fits = fits; bytes = bytes; words = e; front = []; put = sym (append-nil old); spelled = refl }

pub returns-in_ok-put_u8-in-Unlimited : goal.returns-in_ok-put_u8-in-Unlimited
returns-in_ok-put_u8-in-Unlimited c = λ x fits bytes e. (refl, c.in_ok-put_u8-in-Unlimited.ensures.ok ∙ ap (λ t. c.args.out.now ++ t) (none x (sym c.in-Unlimited.is ∙ e)))

pub returns-in_default : goal.returns-in_default
returns-in_default c =
    put_behind FitsLimit limit_text weight_limit FitsWeight (λ w. codes "Limited " ++ weight_text w) (λ w. 1 ∷ weight w) c.args.text.now c.args.text.now c.put_limited.result c.args.out.now c.args.out.now c.put_limited.new.out
    (some c.args.text.now c.args.out.now c.in_default.not-Unlimited)
    c.put_limited.ensures
