-- Names that stand once in a list.
use Rattle.std.proofs.Common.{◌≡◌, ◌∙◌, ℕ, zero, suc, ◌+◌, ◌<◌, Bool, true, cond, ◌&&◌, nat_eq, List, [], ◌∷◌, length, get_or, refl, sym, ap, arith, ◌⊎◌, inl, inr}
use Rattle.std.specs.Str.{bytes_eq}
use Rattle.std.proofs.lemmas.Bool.{and_parts}
use Rattle.std.proofs.lemmas.Bool.Decides.{nat_tests}

unfoldable pub index_in : List ℕ → List (List ℕ) → ℕ
index_in name [] = 0
index_in name (x ∷ xs) = cond (bytes_eq name x) 0 (suc (index_in name xs))

-- each of the names is where it stands first in all of them, from a place on
unfoldable pub once_from : ℕ → List (List ℕ) → List (List ℕ) → Bool
once_from i [] all = true
once_from i (x ∷ xs) all = nat_eq (index_in x all) i && once_from (suc i) xs all

placed : (i : ℕ) (xs all : List (List ℕ)) (k : ℕ) → once_from i xs all ≡ true → k < length xs → index_in (get_or xs k []) all ≡ i + k
unfolding once_from
placed i [] all k once lt = absurd (omega (arith, lt))
placed i (x ∷ xs) all zero once lt = let h = (and_parts (nat_eq (index_in x all) i) (once_from (suc i) xs all) once).0 in grind (arith, nat_tests, h)
placed i (x ∷ xs) all (suc k) once lt =
    let h = (and_parts (nat_eq (index_in x all) i) (once_from (suc i) xs all) once).1 in
    let n : suc i + k ≡ i + suc k = omega arith in
    placed (suc i) xs all k h (omega (arith, lt)) ∙ n

abbrev pub IsOnce : List (List ℕ) → Type 0
IsOnce names = once_from 0 names names ≡ true

pub same_place : (names : List (List ℕ)) (k n : ℕ) → IsOnce names → k < length names → n < length names → get_or names k [] ≡ get_or names n [] → k ≡ n
same_place names k n once lk ln e = let both = sym (placed 0 names names k once lk) ∙ ap (λ name. index_in name names) e ∙ placed 0 names names n once ln in omega (arith, both)

pub below : (k n : ℕ) → k < n + 1 → (k < n) ⊎ (k ≡ n)
below zero zero lt = inr refl
below zero (suc n) lt = inl (omega arith)
below (suc k) zero lt = absurd (omega (arith, lt))
below (suc k) (suc n) lt = elim (below k n (omega (arith, lt))) [ inl h ↦ inl (omega (arith, h)) | inr e ↦ inr (ap suc e) ]
