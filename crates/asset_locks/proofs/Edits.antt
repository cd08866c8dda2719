-- A list whose keys strictly rise, changed at the index of a key: the entry put there, or the entries but that one.
use Rattle.std.proofs.Common.{◌≡◌, ℕ, zero, suc, ◌<◌, ◌≤◌, Bool, true, false, not, List, [], ◌∷◌, length, map, get_or, set, Some, None, refl, sym, ap, ◌∙◌, arith, T}
use Rattle.std.specs.Prelude.{if◌then◌else◌}
use Rattle.std.specs.List.{insert, remove}
use Rattle.std.specs.Ordering.{eq_by_cmp, is_eq, ordering_reverse}
use Rattle.std.specs.declared.cmp.Ordering.{Ordering}
use Rattle.std.specs.declared.cmp.Ordering.TheVariants.{Less, Equal, Greater}
use Rattle.std.specs.Cmp.{tied_itself}
use Rattle.std.specs.FinMap.{find, put, is_sorted}
use Rattle.std.specs.FinMap.Entries.{where_key, below_all, by_order}
use Rattle.amounts.specs.Rows.{IsPositive}
use Rattle.amounts.proofs.Lemmas.Rows.{IsKeyOrder}
use Rattle.plain_lists.proofs.Lemmas.Facts.{and_first as first, and_second as second, is_less as is_Less}

module _ {K X : Type 0} {R : K → K → Ordering} (o : IsKeyOrder R) (row : X → K × ℕ) (k : K) where
  -- the key of the element at an index, whatever default is given
  KeyIs : List X → ℕ → Type 0
  KeyIs xs i = (d : X) → (row (get_or xs i d)).0 ≡ k

  below_at : (x : K) (xs : List X) (i : ℕ) → T (below_all R x (map row xs)) → i < length xs → ((d : X) → (row (get_or xs i d)).0 ≡ k) → R x k ≡ Less
  below_at x [] i h lt is = absurd (omega (arith, lt))
  below_at x (y ∷ ys) zero h lt is = ap (R x) (sym (is y)) ∙ is_Less _ (first _ _ h)
  below_at x (y ∷ ys) (suc i) h lt is = below_at x ys i (second _ _ h) (omega (arith, lt)) is

  turned : (x : K) → R x k ≡ Less → R k x ≡ Greater
  turned x h = o.total.antisymm k x ∙ ap ordering_reverse h

  tied : (x : K) → x ≡ k → R k x ≡ Equal
  tied x e = ap (R k) e ∙ tied_itself o.total k

  pub set_put : (xs : List X) (i : ℕ) (y : X) → T (is_sorted R (map row xs)) → i < length xs → ((d : X) → (row (get_or xs i d)).0 ≡ k) → (row y).0 ≡ k
      → map row (set xs i y) ≡ put R k (row y).1 (map row xs)
  set_put [] i y h lt at is = absurd (omega (arith, lt))
  set_put (x ∷ xs) zero y h lt at is =
      let same : row y ≡ ((row x).0, (row y).1) = λ j. ((is ∙ sym (at x)) j, (row y).1) in
      ap (λ e. e ∷ map row xs) same ∙ ap (λ r. by_order r ((k, (row y).1) ∷ row x ∷ map row xs) (((row x).0, (row y).1) ∷ map row xs) (row x ∷ put R k (row y).1 (map row xs))) (sym (tied (row x).0 (at x)))
  set_put (x ∷ xs) (suc i) y h lt at is =
      ap (λ es. row x ∷ es) (set_put xs i y (second _ _ h) (omega (arith, lt)) at is)
      ∙ ap (λ r. by_order r ((k, (row y).1) ∷ row x ∷ map row xs) (((row x).0, (row y).1) ∷ map row xs) (row x ∷ put R k (row y).1 (map row xs))) (sym (turned (row x).0 (below_at (row x).0 xs i (first _ _ h) (omega (arith, lt)) at)))

  pub insert_put : (xs : List X) (i : ℕ) (y : X) → i ≤ length xs → ((j : ℕ) (d : X) → j < i → R (row (get_or xs j d)).0 k ≡ Less) → ((j : ℕ) (d : X) → i ≤ j → j < length xs → R (row (get_or xs j d)).0 k ≡ Greater)
      → (row y).0 ≡ k → map row (insert xs i y) ≡ put R k (row y).1 (map row xs)
  insert_put [] zero y le before behind is = λ j. (is j, (row y).1) ∷ []
  insert_put [] (suc i) y le before behind is = absurd (omega (arith, le))
  insert_put (x ∷ xs) zero y le before behind is =
      let apart : R k (row x).0 ≡ Less = o.total.antisymm k (row x).0 ∙ ap ordering_reverse (behind 0 x (omega arith) (omega arith)) in
      (λ j. (is j, (row y).1) ∷ row x ∷ map row xs) ∙ ap (λ r. by_order r ((k, (row y).1) ∷ row x ∷ map row xs) (((row x).0, (row y).1) ∷ map row xs) (row x ∷ put R k (row y).1 (map row xs))) (sym apart)
  insert_put (x ∷ xs) (suc i) y le before behind is =
      ap (λ es. row x ∷ es) (insert_put xs i y (omega (arith, le)) (λ j d lt. before (suc j) d (omega (arith, lt))) (λ j d more within. behind (suc j) d (omega (arith, more)) (omega (arith, within))) is)
      ∙ ap (λ r. by_order r ((k, (row y).1) ∷ row x ∷ map row xs) (((row x).0, (row y).1) ∷ map row xs) (row x ∷ put R k (row y).1 (map row xs))) (sym (turned (row x).0 (before 0 x (omega arith))))

  none_tied : (x : K) (es : List (K × ℕ)) → R k x ≡ Equal → T (below_all R x es) → where_key R (λ q. not (eq_by_cmp R k q)) es ≡ es
  none_tied x [] e h = refl
  none_tied x (f ∷ fs) e h =
      let same : k ≡ x = o.exact k x e in
      let less : R k f.0 ≡ Less = ap (λ q. R q f.0) same ∙ is_Less _ (first _ _ h) in
      ap (λ r. if not (is_eq r) then f ∷ where_key R (λ q. not (eq_by_cmp R k q)) fs else where_key R (λ q. not (eq_by_cmp R k q)) fs) less ∙ ap (λ es. f ∷ es) (none_tied x fs e (second _ _ h))

  pub remove_where : (xs : List X) (i : ℕ) → T (is_sorted R (map row xs)) → i < length xs → ((d : X) → (row (get_or xs i d)).0 ≡ k)
      → map row (remove xs i) ≡ where_key R (λ q. not (eq_by_cmp R k q)) (map row xs)
  remove_where [] i h lt at = absurd (omega (arith, lt))
  remove_where (x ∷ xs) zero h lt at =
      sym (ap (λ r. if not (is_eq r) then row x ∷ where_key R (λ q. not (eq_by_cmp R k q)) (map row xs) else where_key R (λ q. not (eq_by_cmp R k q)) (map row xs)) (tied (row x).0 (at x))
      ∙ none_tied (row x).0 (map row xs) (tied (row x).0 (at x)) (first _ _ h))
  remove_where (x ∷ xs) (suc i) h lt at =
      ap (λ es. row x ∷ es) (remove_where xs i (second _ _ h) (omega (arith, lt)) at)
      ∙ ap (λ r. if not (is_eq r) then row x ∷ where_key R (λ q. not (eq_by_cmp R k q)) (map row xs) else where_key R (λ q. not (eq_by_cmp R k q)) (map row xs)) (sym (turned (row x).0 (below_at (row x).0 xs i (first _ _ h) (omega (arith, lt)) at)))

  pub find_at : (xs : List X) (i : ℕ) (d : X) → T (is_sorted R (map row xs)) → i < length xs → ((d : X) → (row (get_or xs i d)).0 ≡ k) → find R k (map row xs) ≡ Some (row (get_or xs i d)).1
  find_at [] i d h lt at = absurd (omega (arith, lt))
  find_at (x ∷ xs) zero d h lt at = ap (λ r. if is_eq r then Some (row x).1 else find R k (map row xs)) (tied (row x).0 (at d))
  find_at (x ∷ xs) (suc i) d h lt at =
      ap (λ r. if is_eq r then Some (row x).1 else find R k (map row xs)) (turned (row x).0 (below_at (row x).0 xs i (first _ _ h) (omega (arith, lt)) at)) ∙ find_at xs i d (second _ _ h) (omega (arith, lt)) at

  pub find_gap : (xs : List X) (i : ℕ) → i ≤ length xs → ((j : ℕ) (d : X) → j < i → R (row (get_or xs j d)).0 k ≡ Less) → ((j : ℕ) (d : X) → i ≤ j → j < length xs → R (row (get_or xs j d)).0 k ≡ Greater)
      → find R k (map row xs) ≡ None
  find_gap [] i le before behind = refl
  find_gap (x ∷ xs) zero le before behind =
      ap (λ r. if is_eq r then Some (row x).1 else find R k (map row xs)) (o.total.antisymm k (row x).0 ∙ ap ordering_reverse (behind 0 x (omega arith) (omega arith)))
      ∙ find_gap xs zero (omega arith) (λ j d lt. absurd (omega (arith, lt))) (λ j d more within. behind (suc j) d (omega arith) (omega (arith, within)))
  find_gap (x ∷ xs) (suc i) le before behind =
      ap (λ r. if is_eq r then Some (row x).1 else find R k (map row xs)) (turned (row x).0 (before 0 x (omega arith)))
      ∙ find_gap xs i (omega (arith, le)) (λ j d lt. before (suc j) d (omega (arith, lt))) (λ j d more within. behind (suc j) d (omega (arith, more)) (omega (arith, within)))

-- ---- amounts above 0 stay above 0
module _ {K : Type 0} (R : K → K → Ordering) where
  pub positive_put : (k : K) (v : ℕ) (es : List (K × ℕ)) → 0 < v → IsPositive es → IsPositive (put R k v es)
  positive_put k v [] some h = (some, tt)
  positive_put k v (e ∷ es) some h =
      elim (R k e.0) as (λ r. IsPositive (by_order r ((k, v) ∷ e ∷ es) ((e.0, v) ∷ es) (e ∷ put R k v es))) [
        | Less ↦ (some, h)
        | Equal ↦ (some, h.1)
        | Greater ↦ (h.0, positive_put k v es some h.1)
      ]

  pub positive_where : (p : K → Bool) (es : List (K × ℕ)) → IsPositive es → IsPositive (where_key R p es)
  positive_where p [] h = tt
  positive_where p (e ∷ es) h =
      elim (p e.0) as (λ b. IsPositive (if b then e ∷ where_key R p es else where_key R p es)) [ true ↦ (h.0, positive_where p es h.1) | false ↦ positive_where p es h.1 ]
