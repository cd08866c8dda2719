-- Sums that saturate, element by element.
use Rattle.std.specs.Prelude.{◌≡◌, ℕ, ◌+◌, ◌<◌, min, List, [], ◌∷◌, ◌++◌, length, take, map, sum_by}
use Rattle.std.proofs.Common.{get_or, sym, ap, ◌∙◌, arith}
use Rattle.std.proofs.lemmas.List.{take_more}
use Rattle.std.proofs.lemmas.List.Sums.{sum_by-append}
use Rattle.plain_lists.proofs.Lemmas.Facts.{saturates_once as one}

-- sums of what saturates saturate as the whole does
pub both : (a b m : ℕ) → min (min a m + min b m) m ≡ min (a + b) m
both a b m = omega arith

pub three : (a b c m : ℕ) → min (min (min a m + min b m) m + min c m) m ≡ min (a + b + c) m
three a b c m = omega arith

pub four : (a b c d m : ℕ) → min (min (min (a + b) m + c) m + d) m ≡ min (a + b + c + d) m
four a b c d m = omega arith

module _ {X A : Type 0} (g : X → A) (f : A → ℕ) where
  pub sum-map_append : (xs ys : List X) → sum_by f (map g (xs ++ ys)) ≡ sum_by f (map g xs) + sum_by f (map g ys)
  sum-map_append [] ys = omega arith
  sum-map_append (x ∷ xs) ys = let rest = sum-map_append xs ys in let here = sum_by-append f (g x ∷ []) (map g (xs ++ ys)) in let front = sum_by-append f (g x ∷ []) (map g xs) in omega (arith, rest, here, front)

  -- one element more
  pub more : (xs : List X) (i : ℕ) (x : X) (m so_far share now : ℕ) → i < length xs → x ≡ get_or xs i x
      → so_far ≡ min (sum_by f (map g (take i xs))) m → share ≡ min (f (g x)) m → now ≡ min (so_far + share) m
      → now ≡ min (sum_by f (map g (take (i + 1) xs))) m
  more xs i x m so_far share now inside is before counts adds =
      let front : take (i + 1) xs ≡ take i xs ++ x ∷ [] = take_more xs i x inside ∙ ap (λ y. take i xs ++ y ∷ []) (sym is) in
      let sum : sum_by f (map g (take (i + 1) xs)) ≡ sum_by f (map g (take i xs)) + sum_by f (map g (x ∷ [])) = ap (λ ys. sum_by f (map g ys)) front ∙ sum-map_append (take i xs) (x ∷ []) in
      let last : sum_by f (map g (x ∷ [])) ≡ f (g x) = omega arith in
      adds ∙ (λ i. min (before i + counts i) m) ∙ both (sum_by f (map g (take i xs))) (f (g x)) m ∙ ap (λ n. min n m) (sym (sum ∙ ap (λ n. sum_by f (map g (take i xs)) + n) last))
