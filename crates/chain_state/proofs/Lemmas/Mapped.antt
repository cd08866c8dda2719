-- A list whose first elements are changed, one after the other.
use Rattle.std.proofs.Common.{◌≡◌, ℕ, zero, suc, ◌+◌, ◌<◌, ◌≤◌, List, [], ◌∷◌, ◌++◌, map, length, get_or, set, take, drop, refl, sym, ap, ◌∙◌, arith, add-one}
use Rattle.std.proofs.lemmas.List.{take_all, drop_all, length-map, append-nil}

module _ {X : Type 0} (f : X → X) where
  abbrev pub front_mapped : ℕ → List X → List X
  front_mapped zero xs = xs
  front_mapped (suc i) [] = []
  front_mapped (suc i) (x ∷ xs) = f x ∷ front_mapped i xs

  next_mapped : (xs : List X) (i : ℕ) (d new : X) → i < length xs → new ≡ f (get_or (front_mapped i xs) i d) → set (front_mapped i xs) i new ≡ front_mapped (suc i) xs
  next_mapped [] i d new h changed = absurd (omega (arith, h))
  next_mapped (x ∷ xs) zero d new h changed = ap (λ y. y ∷ xs) changed
  next_mapped (x ∷ xs) (suc i) d new h changed = ap (λ ys. f x ∷ ys) (next_mapped xs i d new (omega (arith, h)) changed)

  pub all_mapped : (xs : List X) (i : ℕ) → length xs ≤ i → front_mapped i xs ≡ map f xs
  all_mapped [] zero h = refl
  all_mapped [] (suc i) h = refl
  all_mapped (x ∷ xs) zero h = absurd (omega (arith, h))
  all_mapped (x ∷ xs) (suc i) h = ap (λ ys. f x ∷ ys) (all_mapped xs i (omega (arith, h)))

  pub one_more : (xs now : List X) (i : ℕ) (d new : X) → i < length xs → now ≡ front_mapped i xs → new ≡ f (get_or now i d) → set now i new ≡ front_mapped (i + 1) xs
  one_more xs now i d new h so_far changed =
      ap (λ ys. set ys i new) so_far ∙ next_mapped xs i d new h (changed ∙ ap (λ ys. f (get_or ys i d)) so_far) ∙ ap (λ n. front_mapped n xs) (sym (add-one i))

  -- what a `Vec` holds after its slice was changed in place
  pub whole_mapped : (xs now : List X) (n : ℕ) → now ≡ map f xs → n ≡ length xs → take n (now ++ drop (length now) xs) ≡ map f xs
  whole_mapped xs now n is size =
      let long : length now ≡ length xs = ap length is ∙ length-map xs f in
      ap (λ ys. take n (now ++ ys)) (drop_all (length now) xs (omega (arith, long))) ∙ ap (λ ys. take n ys) (append-nil now) ∙ take_all n now (omega (arith, long, size)) ∙ is
