-- How many junctions two lists have in common from the front on, index by index.
use Rattle.std.proofs.Common.{◌≡◌, refl, ℕ, ◌+◌, ◌<◌, ◌≤◌, min, List, [], ◌∷◌, length, get_or, drop, length-drop, Bool, true, false, ◌⊎◌, inl, inr, arith}
use Rattle.std.proofs.lemmas.Bool.{cases_lt}
use Rattle.std.proofs.lemmas.List.Sums.{common_prefix_len-drop_yes, common_prefix_len-drop_no}
use Rattle.locations.specs.declared.grammar.Junction.{Junction}
use Rattle.locations.specs.Chains.{same_junction}
use Rattle.locations.proofs.Lemmas.OrderLaws.{junction_decides}
use Rattle.locations.proofs.Lemmas.{together}

-- equal junctions pass the test, and others fail it
pub alike : (x y : Junction) → x ≡ y → same_junction x y ≡ true
alike x y same = (junction_decides x y).1 same

pub unlike_by : (b : Bool) → (b ≡ true → ⊥) → b ≡ false
unlike_by true no_such = absurd (no_such refl)
unlike_by false _ = refl

pub unlike : (x y : Junction) → (x ≡ y → ⊥) → same_junction x y ≡ false
unlike x y differ = unlike_by (same_junction x y) (λ t. differ ((junction_decides x y).0 t))

-- one junction more, where the junctions are equal
pub goes_on : (xs ys : List Junction) (k : ℕ) (d : Junction) → k < min (length xs) (length ys) → get_or xs k d ≡ get_or ys k d
    → together xs ys ≡ k + together (drop k xs) (drop k ys)
    → together xs ys ≡ (k + 1) + together (drop (k + 1) xs) (drop (k + 1) ys)
goes_on xs ys k d inside same so_far =
    let left : k < length xs = omega arith in
    let right : k < length ys = omega arith in
    let next = common_prefix_len-drop_yes same_junction xs ys k d d left right (alike _ _ same) in
    omega (arith, so_far, next)

-- the end, where they differ
pub stops : (xs ys : List Junction) (k : ℕ) (d : Junction) → k < min (length xs) (length ys) → (get_or xs k d ≡ get_or ys k d → ⊥)
    → together xs ys ≡ k + together (drop k xs) (drop k ys) → k ≡ together xs ys
stops xs ys k d inside differ so_far =
    let left : k < length xs = omega arith in
    let right : k < length ys = omega arith in
    let none = common_prefix_len-drop_no same_junction xs ys k d d left right (unlike _ _ differ) in
    omega (arith, so_far, none)

none_left : (xs ys : List Junction) → (length xs ≡ 0) ⊎ (length ys ≡ 0) → together xs ys ≡ 0
none_left [] ys _ = refl
none_left (x ∷ xs) [] _ = refl
none_left (x ∷ xs) (y ∷ ys) (inl e) = absurd (omega (arith, e))
none_left (x ∷ xs) (y ∷ ys) (inr e) = absurd (omega (arith, e))

one_ends : (xs ys : List Junction) (k : ℕ) → min (length xs) (length ys) ≤ k → (length (drop k xs) ≡ 0) ⊎ (length (drop k ys) ≡ 0)
one_ends xs ys k past =
    elim (cases_lt k (length xs)) [
      | inl short ↦ inr (simp length-drop (omega arith))
      | inr long ↦ inl (simp length-drop (omega arith))
    ]

-- the end, where one list ends
pub ends : (xs ys : List Junction) (k n : ℕ) → n ≤ k → n ≡ min (length xs) (length ys)
    → together xs ys ≡ k + together (drop k xs) (drop k ys) → k ≤ n → n ≡ together xs ys
ends xs ys k n past all so_far within =
    let none = none_left (drop k xs) (drop k ys) (one_ends xs ys k (omega arith)) in
    omega (arith, so_far, none)
