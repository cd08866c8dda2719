-- Lemmas on the definitions of `specs/Firsts.antt`: what proofs cite.
use Rattle.std.specs.Prelude.{◌≡◌, ℕ, zero, suc, ◌+◌, ◌<◌, ◌≤◌, Bool, true, false, cond, not, if◌then◌else◌, List, [], ◌∷◌, length, Some, None, refl, slice_get}
use Rattle.std.specs.List.{find, position, position_or_len, AllByRecursion}
use Rattle.std.proofs.Common.{get_or, set, sym, ap, subst, ◌∙◌, arith}
use Rattle.std.proofs.lemmas.Grind.{common_steps}
use Rattle.std.proofs.lemmas.List.Quantifiers.{position-Some}
use Rattle.plain_lists.specs.Firsts.{change_first}

-- ---- laws

module _ {X : Type 0} (p : X → Bool) where
  earlier : (x : X) (xs : List X) (k : ℕ) (d : X) → ((j : ℕ) → j < suc k → p (get_or (x ∷ xs) j d) ≡ false) → (p x ≡ false) × ((j : ℕ) → j < k → p (get_or xs j d) ≡ false)
  earlier x xs k d none = (none 0 (omega arith), λ j lt. none (suc j) (omega (arith, lt)))

  find_first : (xs : List X) (k : ℕ) (d : X) → k < length xs → p (get_or xs k d) ≡ true → ((j : ℕ) → j < k → p (get_or xs j d) ≡ false) → find p xs ≡ Some (get_or xs k d)
  find_first [] k d lt here none = absurd (omega (arith, lt))
  find_first (x ∷ xs) zero d lt here none = ap (λ b. cond b (Some x) (find p xs)) here
  find_first (x ∷ xs) (suc k) d lt here none =
      let e = earlier x xs k d none in
      ap (λ b. cond b (Some x) (find p xs)) e.0 ∙ find_first xs k d (omega (arith, lt)) here e.1

  change_at : (f : X → X) (xs : List X) (k : ℕ) (d : X) → k < length xs → p (get_or xs k d) ≡ true → ((j : ℕ) → j < k → p (get_or xs j d) ≡ false) → change_first p f xs ≡ set xs k (f (get_or xs k d))
  change_at f [] k d lt here none = absurd (omega (arith, lt))
  change_at f (x ∷ xs) zero d lt here none = ap (λ b. if b then f x ∷ xs else x ∷ change_first p f xs) here
  change_at f (x ∷ xs) (suc k) d lt here none =
      let e = earlier x xs k d none in
      ap (λ b. if b then f x ∷ xs else x ∷ change_first p f xs) e.0 ∙ ap (λ ys. x ∷ ys) (change_at f xs k d (omega (arith, lt)) here e.1)

  none_passes : (xs : List X) → length xs ≤ position_or_len p xs → AllByRecursion (λ x. p x ≡ false) xs
  none_passes [] h = tt
  none_passes (x ∷ xs) h =
      elim (p x) as (λ b. b ≡ p x → length (x ∷ xs) ≤ cond (not b) (1 + position_or_len p xs) 0 → AllByRecursion (λ x. p x ≡ false) (x ∷ xs)) [
        | true ↦ λ e g. absurd (omega (arith, g))
        | false ↦ λ e g. (sym e, none_passes xs (omega (arith, g)))
      ] refl h

  no_place : (xs : List X) → position p xs ≡ None → length xs ≤ position_or_len p xs
  no_place xs e = grind (arith, common_steps)

  -- nowhere: no element passes
  pub passes_none : (xs : List X) → position p xs ≡ None → AllByRecursion (λ x. p x ≡ false) xs
  passes_none xs e = none_passes xs (no_place xs e)

  pub find_none : (xs : List X) → AllByRecursion (λ x. p x ≡ false) xs → find p xs ≡ None
  find_none [] all = refl
  find_none (x ∷ xs) all = ap (λ b. cond b (Some x) (find p xs)) all.0 ∙ find_none xs all.1

  pub change_none : (f : X → X) (xs : List X) → AllByRecursion (λ x. p x ≡ false) xs → change_first p f xs ≡ xs
  change_none f [] all = refl
  change_none f (x ∷ xs) all = ap (λ b. if b then f x ∷ xs else x ∷ change_first p f xs) all.0 ∙ ap (λ ys. x ∷ ys) (change_none f xs all.1)

  pub found_nowhere : (xs : List X) → position p xs ≡ None → find p xs ≡ None
  found_nowhere xs e = find_none xs (passes_none xs e)

  pub changed_nowhere : (f : X → X) (xs : List X) → position p xs ≡ None → change_first p f xs ≡ xs
  changed_nowhere f xs e = change_none f xs (passes_none xs e)

  -- somewhere: the element there is the first
  pub found_at : (xs : List X) (k : ℕ) (x : X) → position p xs ≡ Some k → x ≡ get_or xs k x → find p xs ≡ Some x
  found_at xs k x e at = let first = position-Some p xs k x e in find_first xs k x first.0 first.1 first.2 ∙ ap Some (sym at)

  pub passes_at : (xs : List X) (k : ℕ) (x : X) → position p xs ≡ Some k → x ≡ get_or xs k x → (k < length xs) × (p x ≡ true)
  passes_at xs k x e at = let first = position-Some p xs k x e in (first.0, ap p at ∙ first.1)

  pub changed_at : (f : X → X) (xs : List X) (k : ℕ) (x : X) → position p xs ≡ Some k → x ≡ get_or xs k x → set xs k (f x) ≡ change_first p f xs
  changed_at f xs k x e at = let first = position-Some p xs k x e in ap (λ y. set xs k (f y)) at ∙ sym (change_at f xs k x first.0 first.1 first.2)

  -- an element that passes stands at the first place of one, or behind it
  pub stands_within : (xs : List X) (n : ℕ) (k : X) → slice_get xs n ≡ Some k → p k ≡ true → position_or_len p xs < length xs
  stands_within [] n k at passes = absurd (cc)
  stands_within (x ∷ xs) zero k at passes =
      let same : x ≡ k = cc in
      subst (λ b. cond {A = ℕ} (not b) (1 + position_or_len p xs) 0 < suc (length xs)) (sym (ap p same ∙ passes)) (omega arith)
  stands_within (x ∷ xs) (suc n) k at passes =
      let rest = stands_within xs n k at passes in
      elim (p x) as (λ b. cond {A = ℕ} (not b) (1 + position_or_len p xs) 0 < suc (length xs)) [ true ↦ omega arith | false ↦ omega (arith, rest) ]
