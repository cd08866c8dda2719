-- Where an open query is.
use Rattle.std.proofs.Common.{◌≡◌, ℕ, suc, ◌+◌, Bool, true, false, ◌||◌, cond, not, List, [], ◌∷◌, length, refl, sym, ◌∙◌, subst}
use Rattle.std.specs.Prelude.{Option, None, Some, is_some, nat_lt, position, MatchOption}
use Rattle.std.specs.List.{list_any, position_or_len}
use Rattle.plain_lists.proofs.Lemmas.Facts.{below_by_one as below_more, below_zero_back as first_below}

any_below : {A : Type 0} (p : A → Bool) (xs : List A) → list_any p xs ≡ nat_lt (position_or_len p xs) (length xs)
any_below p [] = refl
any_below p (x ∷ xs) = elim (p x) as (λ b. (b || list_any p xs) ≡ nat_lt (cond {A = ℕ} (not b) (1 + position_or_len p xs) 0) (suc (length xs))) [
  | true ↦ first_below (length xs)
  | false ↦ any_below p xs ∙ sym (below_more (position_or_len p xs) (length xs))
]

some_if : (b : Bool) (n : ℕ) → is_some (cond b (Some n) None) ≡ b
some_if true n = refl
some_if false n = refl

-- one passes exactly where there is a first that does
pub any_at : {A : Type 0} (p : A → Bool) (xs : List A) → list_any p xs ≡ is_some (position p xs)
any_at p xs = any_below p xs ∙ sym (some_if (nat_lt (position_or_len p xs) (length xs)) (position_or_len p xs))

pub at_some : {A : Type 0} (P : Type 0) (Q : A → Type 0) (o : Option A) (x : A) → o ≡ Some x → MatchOption o P Q → Q x
at_some P Q o x is p = subst (λ r. MatchOption r P Q) is p
