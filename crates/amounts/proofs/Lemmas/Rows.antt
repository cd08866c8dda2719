-- Lemmas on the definitions of `specs/Rows.antt`: what proofs cite.
use Rattle.std.specs.Prelude.{◌≡◌, ℕ, suc, ◌+◌, ◌-◌, ◌<◌, ◌≤◌, Bool, true, false, IsTrue, if◌then◌else◌, not, ◌&&◌, List, [], ◌∷◌, ◌++◌, refl, Option, Some, None, unwrap_or}
use Rattle.std.specs.Ordering.{eq_by_cmp, is_eq, is_lt}
use Rattle.std.specs.declared.cmp.Ordering.{Ordering}
use Rattle.std.specs.declared.cmp.Ordering.TheVariants.{Less, Equal, Greater}
use Rattle.std.specs.Cmp.{IsTotalOrder}
use Rattle.std.specs.FinMap.{IsAntisymmetric, find, put, is_sorted}
use Rattle.std.specs.FinMap.Entries.{where_key, below_all, by_order}
use Rattle.std.specs.List.{AllByRecursion}
use Rattle.std.specs.List.Sorted.{IsStrictlySortedBy}
use Rattle.std.specs.Map.{keys_of}
use Rattle.std.proofs.Common.{true≢false, sym, ap, ◌∙◌, subst, arith, T}
use Rattle.amounts.specs.Rows.{amount_if, sum_where, rows_at, raised_rows, IsPositive, raised}
use Rattle.plain_lists.proofs.Lemmas.Facts.{and_first, and_second, equal_told as eq_true, is_less}

-- a total order of keys in which only equal keys tie
pub record IsKeyOrder {K : Type 0} (R : K → K → Ordering) : Type 0 where
  pub total : IsTotalOrder R
  pub exact : IsAntisymmetric R

-- each amount one lower
abbrev pub lowered_rows : {K : Type 0} → List (K × ℕ) → List (K × ℕ)
lowered_rows [] = []
lowered_rows (e ∷ es) = (e.0, e.1 - 1) ∷ lowered_rows es

pub IsPositive-raised_rows : {K : Type 0} (es : List (K × ℕ)) → IsPositive (raised_rows es)
IsPositive-raised_rows [] = tt
IsPositive-raised_rows (e ∷ es) = (omega arith, IsPositive-raised_rows es)

lowered_back : (n : ℕ) → 0 < n → suc (n - 1) ≡ n
lowered_back n h = omega (arith, h)

pub raised_rows-lowered_rows : {K : Type 0} (es : List (K × ℕ)) → IsPositive es → raised_rows (lowered_rows es) ≡ es
raised_rows-lowered_rows [] h = refl
raised_rows-lowered_rows (e ∷ es) h = λ i. (e.0, lowered_back e.1 h.0 i) ∷ raised_rows-lowered_rows es h.1 i

pub raised_same : (a b : Option ℕ) → raised a ≡ raised b → a ≡ b
raised_same None None e = refl
raised_same None (Some n) e = absurd (omega (arith, e))
raised_same (Some n) None e = absurd (omega (arith, e))
raised_same (Some m) (Some n) e = ap Some (omega (arith, e))

pub amount_if-zero : (b : Bool) → amount_if b 0 ≡ 0
amount_if-zero true = refl
amount_if-zero false = refl

both : (a b : Bool) → T a → T b → T (a && b)
both true b g h = h
both false b g h = absurd g

at_most_one : (a b : Bool) (n : ℕ) → (IsTrue a → IsTrue b) → amount_if a n ≤ amount_if b n
at_most_one true true n h = omega arith
at_most_one true false n h = absurd (true≢false (sym (h refl)))
at_most_one false b n h = omega arith

split_one : (a b : Bool) (n : ℕ) → amount_if b n ≡ amount_if (a && b) n + amount_if (not a && b) n
split_one true true n = omega arith
split_one true false n = refl
split_one false true n = omega arith
split_one false false n = refl

module _ {K : Type 0} where
  pub sum_where-append : (p : K → Bool) (xs ys : List (K × ℕ)) → sum_where p (xs ++ ys) ≡ sum_where p xs + sum_where p ys
  sum_where-append p [] ys = omega arith
  sum_where-append p (x ∷ xs) ys = let rest = sum_where-append p xs ys in omega (arith, rest)

  pub sum_where-rows_at : {J : Type 0} (p : K → Bool) (f : J → K) (es : List (J × ℕ)) → sum_where p (rows_at f es) ≡ sum_where (λ k. p (f k)) es
  sum_where-rows_at p f [] = refl
  sum_where-rows_at p f (e ∷ es) = ap (λ n. amount_if (p (f e.0)) e.1 + n) (sum_where-rows_at p f es)

  -- a test that answers alike gives the same sum
  pub sum_where_alike : (p q : K → Bool) (es : List (K × ℕ)) → ((k : K) → p k ≡ q k) → sum_where p es ≡ sum_where q es
  sum_where_alike p q [] same = refl
  sum_where_alike p q (e ∷ es) same = λ i. amount_if (same e.0 i) e.1 + sum_where_alike p q es same i

  -- a test that passes more keys gives no smaller sum
  pub sum_where_at_most : (p q : K → Bool) (es : List (K × ℕ)) → ((k : K) → IsTrue (p k) → IsTrue (q k)) → sum_where p es ≤ sum_where q es
  sum_where_at_most p q [] more = omega arith
  sum_where_at_most p q (e ∷ es) more = let one = at_most_one (p e.0) (q e.0) e.1 (more e.0) in let rest = sum_where_at_most p q es more in omega (arith, one, rest)

  -- the rows that pass a further test, and those that don't
  pub sum_where_split : (p q : K → Bool) (es : List (K × ℕ)) → sum_where p es ≡ sum_where (λ k. q k && p k) es + sum_where (λ k. not (q k) && p k) es
  sum_where_split p q [] = refl
  sum_where_split p q (e ∷ es) = let one = split_one (q e.0) (p e.0) e.1 in let rest = sum_where_split p q es in omega (arith, one, rest)

  module _ (R : K → K → Ordering) where
    -- the rows whose keys pass, under a further test
    pub sum_where-where_key : (p q : K → Bool) (es : List (K × ℕ)) → sum_where p (raised_rows (where_key R q es)) ≡ sum_where (λ k. q k && p k) (raised_rows es)
    sum_where-where_key p q [] = refl
    sum_where-where_key p q (e ∷ es) =
        let rest = sum_where-where_key p q es in
        elim (q e.0) as (λ b. sum_where p (raised_rows (if b then e ∷ where_key R q es else where_key R q es)) ≡ amount_if (b && p e.0) (suc e.1) + sum_where (λ k. q k && p k) (raised_rows es)) [
          | true ↦ ap (λ n. amount_if (p e.0) (suc e.1) + n) rest
          | false ↦ omega (arith, rest)
        ]

-- what a comparison's answer says
less_not : (r : Ordering) → T (is_lt r) → is_eq r ≡ false
less_not Less h = refl
less_not Equal h = absurd h
less_not Greater h = absurd h

module _ {K : Type 0} (R : K → K → Ordering) where
  below_all-raised_rows : (x : K) (es : List (K × ℕ)) → below_all R x (raised_rows es) ≡ below_all R x es
  below_all-raised_rows x [] = refl
  below_all-raised_rows x (e ∷ es) = ap (λ b. is_lt (R x e.0) && b) (below_all-raised_rows x es)

  pub is_sorted-raised_rows : (es : List (K × ℕ)) → is_sorted R (raised_rows es) ≡ is_sorted R es
  is_sorted-raised_rows [] = refl
  is_sorted-raised_rows (e ∷ es) = λ i. below_all-raised_rows e.0 es i && is_sorted-raised_rows es i

  below_all-lowered_rows : (x : K) (es : List (K × ℕ)) → below_all R x (lowered_rows es) ≡ below_all R x es
  below_all-lowered_rows x [] = refl
  below_all-lowered_rows x (e ∷ es) = ap (λ b. is_lt (R x e.0) && b) (below_all-lowered_rows x es)

  pub is_sorted-lowered_rows : (es : List (K × ℕ)) → is_sorted R (lowered_rows es) ≡ is_sorted R es
  is_sorted-lowered_rows [] = refl
  is_sorted-lowered_rows (e ∷ es) = λ i. below_all-lowered_rows e.0 es i && is_sorted-lowered_rows es i

  pub find-raised_rows : (k : K) (es : List (K × ℕ)) → unwrap_or (find R k (raised_rows es)) 0 ≡ raised (find R k es)
  find-raised_rows k [] = refl
  find-raised_rows k (e ∷ es) =
      elim (is_eq (R k e.0)) as (λ b. unwrap_or (if b then Some (suc e.1) else find R k (raised_rows es)) 0 ≡ raised (if b then Some e.1 else find R k es)) [ true ↦ refl | false ↦ find-raised_rows k es ]

  -- keys that strictly rise
  below_all_of_keys : (x : K) (es : List (K × ℕ)) → AllByRecursion (λ y. R x y ≡ Less) (keys_of es) → T (below_all R x es)
  below_all_of_keys x [] h = tt
  below_all_of_keys x (e ∷ es) h = both _ _ (subst (λ r. T (is_lt r)) (sym h.0) tt) (below_all_of_keys x es h.1)

  keys_below : (x : K) (es : List (K × ℕ)) → T (below_all R x es) → AllByRecursion (λ y. R x y ≡ Less) (keys_of es)
  keys_below x [] h = tt
  keys_below x (e ∷ es) h = (is_less _ (and_first _ _ h), keys_below x es (and_second _ _ h))

  pub keys_rising : (es : List (K × ℕ)) → T (is_sorted R es) → IsStrictlySortedBy R (keys_of es)
  unfolding IsStrictlySortedBy
  keys_rising [] h = tt
  keys_rising (e ∷ es) h = (keys_below e.0 es (and_first _ _ h), keys_rising es (and_second _ _ h))

  pub is_sorted_of_keys : (es : List (K × ℕ)) → IsStrictlySortedBy R (keys_of es) → T (is_sorted R es)
  unfolding IsStrictlySortedBy
  is_sorted_of_keys [] h = tt
  is_sorted_of_keys (e ∷ es) h = both _ _ (below_all_of_keys e.0 es h.0) (is_sorted_of_keys es h.1)

-- a sum under a test that is the same for every row
added : (b : Bool) (n s t : ℕ) → s ≡ (amount_if b t) → amount_if b n + s ≡ amount_if b (n + t)
added true n s t e = ap (λ m. n + m) e
added false n s t e = omega (arith, e)

added_none : (b : Bool) (s t : ℕ) → s ≡ (amount_if b t) → 0 + s ≡ amount_if b (0 + t)
added_none true s t e = ap (λ m. 0 + m) e
added_none false s t e = omega (arith, e)

module _ {K : Type 0} {R : K → K → Ordering} (o : IsKeyOrder R) where
  -- below every key, nothing is found
  find_below : (k : K) (es : List (K × ℕ)) → T (below_all R k es) → find R k es ≡ None
  find_below k [] h = refl
  find_below k (e ∷ es) h = ap (λ b. if b then Some e.1 else find R k es) (less_not (R k e.0) (and_first _ _ h)) ∙ find_below k es (and_second _ _ h)

  below_less : (x y : K) (es : List (K × ℕ)) → R x y ≡ Less → T (below_all R y es) → T (below_all R x es)
  below_less x y [] p h = tt
  below_less x y (e ∷ es) p h = both _ _ (subst (λ r. T (is_lt r)) (sym (o.total.trans x y e.0 p (is_less _ (and_first _ _ h)))) tt) (below_less x y es p (and_second _ _ h))

  below_equal : (x y : K) (es : List (K × ℕ)) → R x y ≡ Equal → T (below_all R y es) → T (below_all R x es)
  below_equal x y [] p h = tt
  below_equal x y (e ∷ es) p h = both _ _ (subst (λ r. T (is_lt r)) (sym (o.total.congr x y e.0 p)) (and_first _ _ h)) (below_equal x y es p (and_second _ _ h))

  -- only one row of a list in order has the key, and it is the one that is found
  pub sum_where-find : (k : K) (es : List (K × ℕ)) → T (is_sorted R es) → sum_where (eq_by_cmp R k) es ≡ unwrap_or (find R k es) 0
  sum_where-find k [] h = refl
  sum_where-find k (e ∷ es) h =
      let rest : sum_where (eq_by_cmp R k) es ≡ unwrap_or (find R k es) 0 = sum_where-find k es (and_second (below_all R e.0 es) (is_sorted R es) h) in
      elim (is_eq (R k e.0)) as (λ b. is_eq (R k e.0) ≡ b → amount_if b e.1 + sum_where (eq_by_cmp R k) es ≡ unwrap_or (if b then Some e.1 else find R k es) 0) [
        | true ↦ λ t.
            let none_left : find R k es ≡ None = find_below k es (below_equal k e.0 es (eq_true (R k e.0) t) (and_first _ _ h)) in
            let zero_left : sum_where (eq_by_cmp R k) es ≡ 0 = rest ∙ ap (λ f. unwrap_or f 0) none_left in
            omega (arith, zero_left)
        | false ↦ λ t. omega (arith, rest)
      ] refl

  -- a test of the keys that tie with k is a test of k
  pub sum_where_tied : (p : K → Bool) (k : K) (es : List (K × ℕ)) → sum_where (λ x. eq_by_cmp R k x && p x) es ≡ amount_if (p k) (sum_where (eq_by_cmp R k) es)
  sum_where_tied p k [] = sym (amount_if-zero (p k))
  sum_where_tied p k (e ∷ es) =
      let rest = sum_where_tied p k es in
      let here : is_eq (R k e.0) ≡ true → p e.0 ≡ p k = λ t. ap p (sym (o.exact k e.0 (eq_true _ t))) in
      elim (is_eq (R k e.0)) as (λ b. is_eq (R k e.0) ≡ b → amount_if (b && p e.0) e.1 + sum_where (λ x. eq_by_cmp R k x && p x) es ≡ amount_if (p k) (amount_if b e.1 + sum_where (eq_by_cmp R k) es)) [
        | true ↦ λ t. ap (λ b. amount_if b e.1 + sum_where (λ x. eq_by_cmp R k x && p x) es) (here t) ∙ added (p k) e.1 _ _ rest
        | false ↦ λ t. added_none (p k) _ _ rest
      ] refl

  -- a row that is inserted replaces the one with its key
  pub sum_where-put : (p : K → Bool) (k : K) (v : ℕ) (es : List (K × ℕ)) → T (is_sorted R es)
      → sum_where p (raised_rows (put R k v es)) + amount_if (p k) (raised (find R k es)) ≡ sum_where p (raised_rows es) + amount_if (p k) (suc v)
  sum_where-put p k v [] h = elim (p k) as (λ b. (amount_if b (suc v) + 0) + amount_if b 0 ≡ 0 + amount_if b (suc v)) [ true ↦ omega arith | false ↦ refl ]
  sum_where-put p k v (e ∷ es) h =
      let rest : sum_where p (raised_rows (put R k v es)) + amount_if (p k) (raised (find R k es)) ≡ sum_where p (raised_rows es) + amount_if (p k) (suc v) = sum_where-put p k v es (and_second (below_all R e.0 es) (is_sorted R es) h) in
      let none_left : R k e.0 ≡ Less → find R k es ≡ None = λ r. find_below k es (below_less k e.0 es r (and_first _ _ h)) in
      let nothing : amount_if (p k) 0 ≡ 0 = amount_if-zero (p k) in
      elim (R k e.0) as (λ r. R k e.0 ≡ r → sum_where p (raised_rows (by_order r ((k, v) ∷ e ∷ es) ((e.0, v) ∷ es) (e ∷ put R k v es))) + amount_if (p k) (raised (if is_eq r then Some e.1 else find R k es)) ≡ sum_where p (raised_rows (e ∷ es)) + amount_if (p k) (suc v)) [
        | Less ↦ λ r. ap (λ f. sum_where p (raised_rows ((k, v) ∷ e ∷ es)) + amount_if (p k) (raised f)) (none_left r) ∙ omega (arith, nothing)
        | Equal ↦ λ r. subst (λ x. (amount_if (p e.0) (suc v) + sum_where p (raised_rows es)) + amount_if (p x) (suc e.1) ≡ (amount_if (p e.0) (suc e.1) + sum_where p (raised_rows es)) + amount_if (p x) (suc v)) (sym (o.exact k e.0 r)) (omega arith)
        | Greater ↦ λ r. omega (arith, rest)
      ] refl
