use Rattle.std.proofs.Common.{◌≡◌, ◌∙◌, ℕ, List, [], ◌∷◌, ◌++◌, refl, sym, ap}
use Rattle.std.specs.Prelude.{codes}
use Rattle.asset_lists.specs.declared.filters.WildFun.{WildFun}
use Rattle.asset_lists.specs.declared.filters.WildFun.TheVariants as kinds
use Rattle.asset_wire.specs.Spelling.{wild_fun}
use Rattle.message_text.specs.Words.{wild_fun_text}
use Rattle.tree_reading.proofs.Behind.{unlike}
use Rattle.tree_reading.proofs.assets.put_wild_fun.Goals as goal

fungible : (x : WildFun) → codes "Fungible" ≡ wild_fun_text x → 0 ∷ [] ≡ wild_fun x
unfolding wild_fun_text
fungible kinds.Fungible e = refl
fungible kinds.NonFungible e = absurd (unlike (codes "Fungible") (codes "NonFungible") 0 e refl)

instances : (x : WildFun) → codes "NonFungible" ≡ wild_fun_text x → 1 ∷ [] ≡ wild_fun x
unfolding wild_fun_text
instances kinds.Fungible e = absurd (unlike (codes "NonFungible") (codes "Fungible") 0 e refl)
instances kinds.NonFungible e = refl

neither : (text : List ℕ) (x : WildFun) → (text ≡ codes "Fungible" → ⊥) → (text ≡ codes "NonFungible" → ⊥) → text ≡ wild_fun_text x → ⊥
unfolding wild_fun_text
neither text kinds.Fungible a b e = a e
neither text kinds.NonFungible a b e = b e

pub returns-in_default : goal.returns-in_default
returns-in_default c = λ x fits bytes e. absurd (neither c.args.text.now x c.in_default.not-Fungible c.in_default.not-NonFungible e)

pub returns-in_ok-put_u8-in-Fungible : goal.returns-in_ok-put_u8-in-Fungible
returns-in_ok-put_u8-in-Fungible c = λ x fits bytes e. (refl, c.in_ok-put_u8-in-Fungible.ensures.ok ∙ ap (λ t. c.args.out.now ++ t) (fungible x (sym c.in-Fungible.is ∙ e)))

pub returns-in_ok-put_u8-in-NonFungible : goal.returns-in_ok-put_u8-in-NonFungible
returns-in_ok-put_u8-in-NonFungible c = λ x fits bytes e. (refl, c.in_ok-put_u8-in-NonFungible.ensures.ok ∙ ap (λ t. c.args.out.now ++ t) (instances x (sym c.in-NonFungible.is ∙ e)))
