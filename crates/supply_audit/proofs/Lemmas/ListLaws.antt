-- Lists whose elements are numbered, element by element. A reader can skip it.
use Rattle.std.specs.Prelude.{◌≡◌, ℕ, ◌+◌, ◌<◌, ◌≤◌, List, [], ◌∷◌, ◌++◌, length, drop, flat_map, map, refl}
use Rattle.std.specs.List.{enumerate_from}
use Rattle.std.proofs.Common.{get_or, sym, ap, ◌∙◌, append-nil, append_assoc}
use Rattle.std.proofs.lemmas.List.{at_drop_more, at_drop_all}

module _ {A B : Type 0} (f : ℕ × A → List B) where
  -- what is given of one element more
  pub one_more : (xs : List A) (i : ℕ) (x : A) (old new whole : List B) → i < length xs → x ≡ get_or xs i x
      → new ≡ old ++ f (i, x) → old ++ flat_map f (enumerate_from i (drop i xs)) ≡ whole → new ++ flat_map f (enumerate_from (i + 1) (drop (i + 1) xs)) ≡ whole
  one_more xs i x old new whole inside is adds before =
      let rest = flat_map f (enumerate_from (i + 1) (drop (i + 1) xs)) in
      let first : flat_map f (enumerate_from i (drop i xs)) ≡ f (i, x) ++ rest =
      at_drop_more (λ (ys : List A). flat_map f (enumerate_from i ys)) xs i x inside ∙ ap (λ y. f (i, y) ++ rest) (sym is) in
      ap (λ t. t ++ rest) adds ∙ append_assoc old (f (i, x)) rest ∙ ap (λ t. old ++ t) (sym first) ∙ before

  -- and of no more
  pub none_left : (xs : List A) (i : ℕ) (now whole : List B) → length xs ≤ i → now ++ flat_map f (enumerate_from i (drop i xs)) ≡ whole → now ≡ whole
  none_left xs i now whole past before =
      sym (append-nil now) ∙ ap (λ t. now ++ t) (sym (at_drop_all (λ (ys : List A). flat_map f (enumerate_from i ys)) xs i past)) ∙ before

-- elements that are seen as others
pub of_mapped : {A B C : Type 0} (f : ℕ × B → List C) (g : A → B) (n : ℕ) (xs : List A)
    → flat_map f (enumerate_from n (map g xs)) ≡ flat_map (λ (x : ℕ × A). f (x.0, g x.1)) (enumerate_from n xs)
of_mapped f g n [] = refl
of_mapped f g n (x ∷ xs) = ap (λ t. f (n, g x) ++ t) (of_mapped f g (n + 1) xs)
