-- A loop that writes each of a list: what is still to come.
use Rattle.std.proofs.Common.{◌≡◌, ℕ, suc, ◌+◌, ◌<◌, ◌≤◌, List, ◌∷◌, ◌++◌, length, get_or, map, drop, sym, ap, subst, ◌∙◌, append_assoc, add-one, drop-cons}
use Rattle.std.proofs.lemmas.List.{append-nil, drop_all}
use Rattle.std.specs.List.{AllByRecursion}
use Rattle.scale_codec.specs.Spelling.{joined}

module _ {X : Type 0} where
  at_drop : (xs : List X) (k : ℕ) (x : X) → k < length xs → x ≡ get_or xs k x → drop k xs ≡ x ∷ drop (k + 1) xs
  at_drop xs k x lt is = let one : k + 1 ≡ suc k = add-one k in rw one (drop-cons xs k x lt ∙ ap (λ (y : X). y ∷ drop (suc k) xs) (sym is))

  pub writes_next : (t : X → List ℕ) (xs : List X) (k : ℕ) (x : X) (o : List ℕ) → k < length xs → x ≡ get_or xs k x
      → (o ++ t x) ++ joined (map t (drop (k + 1) xs)) ≡ o ++ joined (map t (drop k xs))
  writes_next t xs k x o lt is =
      append_assoc o (t x) (joined (map t (drop (k + 1) xs))) ∙ sym (ap (λ (ys : List X). o ++ joined (map t ys)) (at_drop xs k x lt is))

  pub wrote_all : (t : X → List ℕ) (xs : List X) (k : ℕ) (o : List ℕ) → length xs ≤ k → o ++ joined (map t (drop k xs)) ≡ o
  wrote_all t xs k o le = ap (λ (ys : List X). o ++ joined (map t ys)) (drop_all k xs le) ∙ append-nil o

  pub fits_next : (F : X → Type 0) (xs : List X) (k : ℕ) (x : X) → k < length xs → x ≡ get_or xs k x → F x
      → (AllByRecursion F (drop k xs) → AllByRecursion F xs) → AllByRecursion F (drop (k + 1) xs) → AllByRecursion F xs
  fits_next F xs k x lt is here so_far rest = so_far (subst (AllByRecursion F) (sym (at_drop xs k x lt is)) (here, rest))

  pub fits_all : (F : X → Type 0) (xs : List X) (k : ℕ) → length xs ≤ k → (AllByRecursion F (drop k xs) → AllByRecursion F xs) → AllByRecursion F xs
  fits_all F xs k le so_far = so_far (subst (AllByRecursion F) (sym (drop_all k xs le)) tt)

  -- what holds of all holds of one
  pub all_at : (F : X → Type 0) (xs : List X) (k : ℕ) (x : X) → k < length xs → x ≡ get_or xs k x → AllByRecursion F (drop k xs) → F x × AllByRecursion F (drop (k + 1) xs)
  all_at F xs k x lt is all = let h = subst (AllByRecursion F) (at_drop xs k x lt is) all in (h.0, h.1)
