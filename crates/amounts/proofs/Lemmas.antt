-- For proofs alone: a reader may skip this file. What each operation on amounts has at a key, and what its totals are;
-- when two of them give one map; and sums of which one or two parts are known. The laws of `laws.rt` say it.
pub mod AmountLaws
pub mod Entries
pub mod Keys
pub mod Moves
pub mod Rows
use Rattle.std.specs.Prelude.{◌≡◌, ℕ, zero, suc, ◌+◌, ◌-◌, ◌<◌, ◌≤◌, Bool, true, false, IsTrue, if◌then◌else◌, not, min, List, [], ◌∷◌, ◌++◌, Some, slice_get, sum_by, refl}
use Rattle.std.specs.Ordering.{eq_by_cmp, is_eq}
use Rattle.std.specs.declared.cmp.Ordering.{Ordering}
use Rattle.std.specs.Cmp.{tied_itself}
use Rattle.std.specs.FinMap.{is_sorted}
use Rattle.std.proofs.Common.{sym, ap, ◌∙◌, subst, arith, inl, inr, T}
use Rattle.std.proofs.lemmas.Bool.{cases_lt}
use Rattle.std.proofs.lemmas.List.Sums.{sum_by-cons}
use Rattle.amounts.specs.Rows.{IsPositive, amount_if, sum_where, rows_at}
use Rattle.amounts.proofs.Lemmas.Rows.{IsKeyOrder, amount_if-zero, sum_where-append, sum_where-rows_at}
use Rattle.amounts.specs.Amounts.{Amounts, empty, amount, rows, total, restriction, single, plus, minus, plus_all, minus_all, from_rows, merge, difference, lesser, map_keys, IsWithin}
use Rattle.amounts.proofs.Lemmas.AmountLaws.{same_amounts, with_rows, amount-empty, total-empty, total_at_most, total-rows, amount-restriction, amount-total, amount-with_amount, total-with_amount}
use Rattle.plain_lists.proofs.Lemmas.Facts.{equal_told as eq_true}

-- cases of a test
if_plus : (b : Bool) (x s t a : ℕ) → x + amount_if b s ≡ t + amount_if b (s + a) → x ≡ t + amount_if b a
if_plus true x s t a h = omega (arith, h)
if_plus false x s t a h = omega (arith, h)

if_minus : (b : Bool) (x s t a : ℕ) → a ≤ s → x + amount_if b s ≡ t + amount_if b (s - a) → x + amount_if b a ≡ t
if_minus true x s t a le h = omega (arith, le, h)
if_minus false x s t a le h = omega (arith, h)

if_less : (b : Bool) (n a : ℕ) → (if b then n - a else n) ≡ n - amount_if b a
if_less true n a = refl
if_less false n a = omega arith

if_both : (b : Bool) (n : ℕ) → amount_if b n + amount_if (not b) n ≡ n
if_both true n = omega arith
if_both false n = omega arith

if_at_most : (b : Bool) (n : ℕ) → amount_if b n ≤ n
if_at_most true n = omega arith
if_at_most false n = omega arith

min_of_differences : (a b : ℕ) → a - (a - b) ≡ min a b
min_of_differences a b = omega arith

module _ {K : Type 0} {R : K → K → Ordering} where
  pub plus_all-append : (m : Amounts R) (xs ys : List (K × ℕ)) → plus_all m (xs ++ ys) ≡ plus_all (plus_all m xs) ys
  unfolding plus_all
  plus_all-append m [] ys = refl
  plus_all-append m (x ∷ xs) ys = plus_all-append (plus m x.0 x.1) xs ys

  pub minus_all-append : (m : Amounts R) (xs ys : List (K × ℕ)) → minus_all m (xs ++ ys) ≡ minus_all (minus_all m xs) ys
  unfolding minus_all
  minus_all-append m [] ys = refl
  minus_all-append m (x ∷ xs) ys = minus_all-append (minus m x.0 x.1) xs ys

module _ {K : Type 0} {R : K → K → Ordering} (o : IsKeyOrder R) where
  -- ---- keys
  pub same_key : (k : K) → eq_by_cmp R k k ≡ true
  same_key k = ap is_eq (tied_itself o.total k)

  pub key_same : (j k : K) → eq_by_cmp R j k ≡ true → j ≡ k
  key_same j k t = o.exact j k (eq_true _ t)

  -- ---- what is at a key
  pub amount-single : (k : K) (a : ℕ) (q : K) → amount (single {R = R} k a) q ≡ amount_if (eq_by_cmp R q k) a
  unfolding single
  amount-single k a q = amount-with_amount o (empty {R = R}) k a q ∙ ap (λ n. if eq_by_cmp R q k then a else n) (amount-empty o q)

  pub amount-minus : (m : Amounts R) (k : K) (a : ℕ) (q : K) → amount (minus m k a) q ≡ amount m q - amount_if (eq_by_cmp R q k) a
  unfolding minus
  amount-minus m k a q =
      amount-with_amount o m k (amount m k - a) q
      ∙ elim (eq_by_cmp R q k) as (λ b. eq_by_cmp R q k ≡ b → (if b then amount m k - a else amount m q) ≡ amount m q - amount_if b a) [
        | true ↦ λ t. ap (λ x. amount m x - a) (sym (key_same q k t))
        | false ↦ λ t. if_less false (amount m q) a
      ] refl

  -- ---- totals
  pub total-plus : (p : K → Bool) (m : Amounts R) (k : K) (a : ℕ) → total p (plus m k a) ≡ total p m + amount_if (p k) a
  unfolding plus
  total-plus p m k a = if_plus (p k) _ (amount m k) _ a (total-with_amount o p m k (amount m k + a))

  pub total-minus : (p : K → Bool) (m : Amounts R) (k : K) (a : ℕ) → a ≤ amount m k → total p (minus m k a) + amount_if (p k) a ≡ total p m
  unfolding minus
  total-minus p m k a le = if_minus (p k) _ (amount m k) _ a le (total-with_amount o p m k (amount m k - a))

  pub total-plus_all : (p : K → Bool) (m : Amounts R) (es : List (K × ℕ)) → total p (plus_all m es) ≡ total p m + sum_where p es
  unfolding plus_all
  total-plus_all p m [] = omega arith
  total-plus_all p m (e ∷ es) = let one = total-plus p m e.0 e.1 in let rest = total-plus_all p (plus m e.0 e.1) es in omega (arith, one, rest)

  pub total-from_rows : (p : K → Bool) (es : List (K × ℕ)) → total p (from_rows {R = R} es) ≡ sum_where p es
  unfolding from_rows
  total-from_rows p es = let all = total-plus_all p (empty {R = R}) es in let none = total-empty o p in omega (arith, all, none)

  pub total-merge : (p : K → Bool) (m n : Amounts R) → total p (merge m n) ≡ total p m + total p n
  unfolding merge
  total-merge p m n = total-plus_all p m (rows n) ∙ ap (λ t. total p m + t) (total-rows p n)

  pub total-single : (p : K → Bool) (k : K) (a : ℕ) → total p (single {R = R} k a) ≡ amount_if (p k) a
  unfolding single
  total-single p k a =
      let all = total-with_amount o p (empty {R = R}) k a in
      let none = total-empty o p in
      let before : amount_if (p k) (amount (empty {R = R}) k) ≡ 0 = ap (amount_if (p k)) (amount-empty o k) ∙ amount_if-zero (p k) in
      omega (arith, all, none, before)

  -- ---- what is at a key, from the totals
  pub amount-plus : (m : Amounts R) (k : K) (a : ℕ) (q : K) → amount (plus m k a) q ≡ amount m q + amount_if (eq_by_cmp R q k) a
  amount-plus m k a q = amount-total o _ q ∙ total-plus (eq_by_cmp R q) m k a ∙ ap (λ t. t + amount_if (eq_by_cmp R q k) a) (sym (amount-total o m q))

  pub amount-plus_all : (m : Amounts R) (es : List (K × ℕ)) (q : K) → amount (plus_all m es) q ≡ amount m q + sum_where (eq_by_cmp R q) es
  amount-plus_all m es q = amount-total o _ q ∙ total-plus_all (eq_by_cmp R q) m es ∙ ap (λ t. t + sum_where (eq_by_cmp R q) es) (sym (amount-total o m q))

  pub amount-from_rows : (es : List (K × ℕ)) (q : K) → amount (from_rows {R = R} es) q ≡ sum_where (eq_by_cmp R q) es
  amount-from_rows es q = amount-total o _ q ∙ total-from_rows (eq_by_cmp R q) es

  pub amount-merge : (m n : Amounts R) (q : K) → amount (merge m n) q ≡ amount m q + amount n q
  amount-merge m n q = amount-total o _ q ∙ total-merge (eq_by_cmp R q) m n ∙ ap (λ t. t + total (eq_by_cmp R q) n) (sym (amount-total o m q)) ∙ ap (λ t. amount m q + t) (sym (amount-total o n q))

  pub amount-minus_all : (m : Amounts R) (es : List (K × ℕ)) (q : K) → amount (minus_all m es) q ≡ amount m q - sum_where (eq_by_cmp R q) es
  unfolding minus_all
  amount-minus_all m [] q = omega arith
  amount-minus_all m (e ∷ es) q = let one = amount-minus m e.0 e.1 q in let rest = amount-minus_all (minus m e.0 e.1) es q in omega (arith, one, rest)

  pub amount-difference : (m n : Amounts R) (q : K) → amount (difference m n) q ≡ amount m q - amount n q
  unfolding difference
  amount-difference m n q = amount-minus_all m (rows n) q ∙ ap (λ t. amount m q - t) (total-rows (eq_by_cmp R q) n ∙ sym (amount-total o n q))

  pub amount-lesser : (m n : Amounts R) (q : K) → amount (lesser m n) q ≡ min (amount m q) (amount n q)
  unfolding lesser
  amount-lesser m n q = amount-difference m (difference m n) q ∙ ap (λ t. amount m q - t) (amount-difference m n q) ∙ min_of_differences (amount m q) (amount n q)

  -- no amount passes a total that counts its key
  pub amount_at_most : (p : K → Bool) (m : Amounts R) (k : K) → IsTrue (p k) → amount m k ≤ total p m
  amount_at_most p m k passes =
      let here : (x : K) → IsTrue (eq_by_cmp R k x) → IsTrue (p x) = λ x t. subst (λ y. IsTrue (p y)) (key_same k x t) passes in
      subst (λ n. n ≤ total p m) (sym (amount-total o m k)) (total_at_most (eq_by_cmp R k) p m here)

  -- ---- one map in two ways
  pub from_rows-rows : (m : Amounts R) → from_rows (rows m) ≡ m
  from_rows-rows m = same_amounts o _ _ (λ q. amount-from_rows (rows m) q ∙ total-rows (eq_by_cmp R q) m ∙ sym (amount-total o m q))

  -- rows in order, with no amount 0, are the rows of their map
  pub rows-from_rows : (es : List (K × ℕ)) → T (is_sorted R es) → IsPositive es → rows (from_rows {R = R} es) ≡ es
  rows-from_rows es in_order positive =
      let made = with_rows es in_order positive in
      ap (λ fs. rows (from_rows {R = R} fs)) (sym made.1) ∙ ap rows (from_rows-rows made.0) ∙ made.1

  pub from_rows-append : (xs ys : List (K × ℕ)) → from_rows {R = R} (xs ++ ys) ≡ merge (from_rows xs) (from_rows ys)
  from_rows-append xs ys = same_amounts o _ _ (λ q.
      let all = amount-from_rows (xs ++ ys) q in
      let joined = sum_where-append (eq_by_cmp R q) xs ys in
      let front = amount-from_rows xs q in
      let back = amount-from_rows ys q in
      let both = amount-merge (from_rows xs) (from_rows ys) q in
      omega (arith, all, joined, front, back, both))

  -- rows may be added up before they are added
  pub plus_all-from_rows : (m : Amounts R) (es : List (K × ℕ)) → plus_all m es ≡ merge m (from_rows es)
  plus_all-from_rows m es = same_amounts o _ _ (λ q.
      let all = amount-plus_all m es q in
      let alone = amount-from_rows es q in
      let both = amount-merge m (from_rows es) q in
      omega (arith, all, alone, both))

  pub minus_all-from_rows : (m : Amounts R) (es : List (K × ℕ)) → minus_all m es ≡ difference m (from_rows es)
  minus_all-from_rows m es = same_amounts o _ _ (λ q.
      let all = amount-minus_all m es q in
      let alone = amount-from_rows es q in
      let less = amount-difference m (from_rows es) q in
      omega (arith, all, alone, less))

  pub plus-single : (m : Amounts R) (k : K) (a : ℕ) → plus m k a ≡ merge m (single k a)
  plus-single m k a = same_amounts o _ _ (λ q.
      let more = amount-plus m k a q in
      let one = amount-single k a q in
      let both = amount-merge m (single k a) q in
      omega (arith, more, one, both))

  pub minus-single : (m : Amounts R) (k : K) (a : ℕ) → minus m k a ≡ difference m (single k a)
  minus-single m k a = same_amounts o _ _ (λ q.
      let less = amount-minus m k a q in
      let one = amount-single k a q in
      let both = amount-difference m (single k a) q in
      omega (arith, less, one, both))

  pub single-zero : (k : K) → single {R = R} k 0 ≡ empty
  single-zero k = same_amounts o _ _ (λ q. amount-single k 0 q ∙ amount_if-zero (eq_by_cmp R q k) ∙ sym (amount-empty o q))

  pub merge-empty : (m : Amounts R) → merge m empty ≡ m
  merge-empty m = same_amounts o _ _ (λ q. let both = amount-merge m empty q in let none = amount-empty o q in omega (arith, both, none))

  pub merge_comm : (m n : Amounts R) → merge m n ≡ merge n m
  merge_comm m n = same_amounts o _ _ (λ q. let left = amount-merge m n q in let right = amount-merge n m q in omega (arith, left, right))

  pub merge_assoc : (l m n : Amounts R) → merge (merge l m) n ≡ merge l (merge m n)
  merge_assoc l m n = same_amounts o _ _ (λ q.
      let left = amount-merge (merge l m) n q in
      let first = amount-merge l m q in
      let right = amount-merge l (merge m n) q in
      let last = amount-merge m n q in
      omega (arith, left, first, right, last))

  -- what is taken out and put back
  pub merge-difference : (m n : Amounts R) → IsWithin n m → merge (difference m n) n ≡ m
  merge-difference m n within = same_amounts o _ _ (λ q.
      let both = amount-merge (difference m n) n q in
      let less = amount-difference m n q in
      let le = within q in
      omega (arith, both, less, le))

  -- what is put in and taken out
  pub difference-merge : (m n : Amounts R) → difference (merge m n) n ≡ m
  difference-merge m n = same_amounts o _ _ (λ q.
      let less = amount-difference (merge m n) n q in
      let both = amount-merge m n q in
      omega (arith, less, both))

  pub difference-self : (m : Amounts R) → difference m m ≡ empty
  difference-self m = same_amounts o _ _ (λ q. let less = amount-difference m m q in let none = amount-empty o q in omega (arith, less, none))

  -- the part that passes and the part that doesn't are the whole
  pub merge-restriction : (p : K → Bool) (m : Amounts R) → merge (restriction p m) (restriction (λ k. not (p k)) m) ≡ m
  merge-restriction p m = same_amounts o _ _ (λ q.
      let both = amount-merge (restriction p m) (restriction (λ k. not (p k)) m) q in
      let in_part = amount-restriction o p m q in
      let out_part = amount-restriction o (λ k. not (p k)) m q in
      let whole : amount_if (p q) (amount m q) + amount_if (not (p q)) (amount m q) ≡ amount m q = if_both (p q) (amount m q) in
      omega (arith, both, in_part, out_part, whole))

  pub IsWithin-restriction : (p : K → Bool) (m : Amounts R) → IsWithin (restriction p m) m
  IsWithin-restriction p m q = subst (λ n. n ≤ amount m q) (sym (amount-restriction o p m q)) (if_at_most (p q) (amount m q))

  pub IsWithin-lesser : (m n : Amounts R) → IsWithin (lesser m n) m × IsWithin (lesser m n) n
  IsWithin-lesser m n = (λ q. let least = amount-lesser m n q in omega (arith, least), λ q. let least = amount-lesser m n q in omega (arith, least))

  pub total-difference : (p : K → Bool) (m n : Amounts R) → IsWithin n m → total p (difference m n) + total p n ≡ total p m
  total-difference p m n within = sym (total-merge p (difference m n) n) ∙ ap (total p) (merge-difference m n within)

module _ {J K : Type 0} {S : J → J → Ordering} {R : K → K → Ordering} (o : IsKeyOrder R) where
  pub total-map_keys : (p : K → Bool) (f : J → K) (m : Amounts S) → total p (map_keys {S = S} {R = R} f m) ≡ total (λ j. p (f j)) m
  unfolding map_keys
  total-map_keys p f m = total-from_rows o p (rows_at f (rows m)) ∙ sum_where-rows_at p f (rows m) ∙ total-rows (λ j. p (f j)) m

  pub amount-map_keys : (f : J → K) (m : Amounts S) (q : K) → amount (map_keys {S = S} {R = R} f m) q ≡ total (λ j. eq_by_cmp R q (f j)) m
  amount-map_keys f m q = amount-total o _ q ∙ total-map_keys (eq_by_cmp R q) f m

-- ---- totals over what a map has
one_alike : (a b : Bool) (n : ℕ) → (0 < n → a ≡ b) → amount_if a n ≡ amount_if b n
one_alike a b zero same = amount_if-zero a ∙ sym (amount_if-zero b)
one_alike a b (suc n) same = ap (λ c. amount_if c (suc n)) (same (omega arith))

pub sum_where_false : {K : Type 0} (es : List (K × ℕ)) → sum_where (λ k. false) es ≡ 0
sum_where_false [] = refl
sum_where_false (e ∷ es) = let rest = sum_where_false es in omega (arith, rest)

module _ {K : Type 0} {R : K → K → Ordering} (o : IsKeyOrder R) where
  pub sum_where_alike_held : (p q : K → Bool) (es : List (K × ℕ)) → ((k : K) → 0 < sum_where (eq_by_cmp R k) es → p k ≡ q k) → sum_where p es ≡ sum_where q es
  sum_where_alike_held p q [] same = refl
  sum_where_alike_held p q (e ∷ es) same =
      let counted : amount_if (eq_by_cmp R e.0 e.0) e.1 ≡ e.1 = ap (λ b. amount_if b e.1) (same_key o e.0) in
      let here : amount_if (p e.0) e.1 ≡ amount_if (q e.0) e.1 = one_alike (p e.0) (q e.0) e.1 (λ some. same e.0 (omega (arith, some, counted))) in
      let rest : sum_where p es ≡ sum_where q es = sum_where_alike_held p q es (λ k some. same k (omega (arith, some))) in
      omega (arith, here, rest)

  -- a sum of rows above 0 has a key that passes
  pub some_row_held : (p : K → Bool) (es : List (K × ℕ)) → 0 < sum_where p es → (k : K) × (p k ≡ true) × (0 < sum_where (eq_by_cmp R k) es)
  some_row_held p [] some = absurd (omega (arith, some))
  some_row_held p (e ∷ es) some =
      let counted : amount_if (eq_by_cmp R e.0 e.0) e.1 ≡ e.1 = ap (λ b. amount_if b e.1) (same_key o e.0) in
      elim (cases_lt 0 (sum_where p es)) [
        | inl later ↦ let rest = some_row_held p es later in (rest.0, rest.1, let more = rest.2 in omega (arith, more))
        | inr none ↦ elim (p e.0) as (λ b. p e.0 ≡ b → (k : K) × (p k ≡ true) × (0 < sum_where (eq_by_cmp R k) (e ∷ es))) [
          | true ↦ λ t.
              let here : 0 < amount_if true e.1 + sum_where p es = subst (λ b. 0 < amount_if b e.1 + sum_where p es) t some in
              (e.0, t, omega (arith, here, none, counted))
          | false ↦ λ t.
              let here : 0 < amount_if false e.1 + sum_where p es = subst (λ b. 0 < amount_if b e.1 + sum_where p es) t some in
              absurd (omega (arith, here, none))
        ] refl
      ]

  -- what is at a key is what the rows of the key sum up to
  pub amount-rows : (m : Amounts R) (k : K) → amount m k ≡ sum_where (eq_by_cmp R k) (rows m)
  amount-rows m k = amount-total o m k ∙ sym (total-rows (eq_by_cmp R k) m)

  -- tests that answer alike at what the map has give the same total
  pub total_alike_held : (p q : K → Bool) (m : Amounts R) → ((k : K) → 0 < amount m k → p k ≡ q k) → total p m ≡ total q m
  total_alike_held p q m same =
      let each : (k : K) → 0 < sum_where (eq_by_cmp R k) (rows m) → p k ≡ q k = λ k some. same k (subst (λ n. 0 < n) (sym (amount-rows m k)) some) in
      sym (total-rows p m) ∙ sum_where_alike_held p q (rows m) each ∙ total-rows q m

  -- a test that passes nothing that the map has
  pub total_none : (p : K → Bool) (m : Amounts R) → ((k : K) → 0 < amount m k → p k ≡ false) → total p m ≡ 0
  total_none p m none = total_alike_held p (λ k. false) m none ∙ sym (total-rows (λ k. false) m) ∙ sum_where_false (rows m)

  -- a total above 0 has a key that passes
  pub some_key : (p : K → Bool) (m : Amounts R) → 0 < total p m → (k : K) × (p k ≡ true) × (0 < amount m k)
  some_key p m some =
      let found = some_row_held p (rows m) (subst (λ n. 0 < n) (sym (total-rows p m)) some) in
      (found.0, found.1, subst (λ n. 0 < n) (sym (amount-rows m found.0)) found.2)

-- ---- sums of which parts are known
module _ {X : Type 0} where
  -- one element has at most the sum
  pub one_at_most : (f : X → ℕ) (xs : List X) (i : ℕ) (x : X) → slice_get xs i ≡ Some x → f x ≤ sum_by f xs
  one_at_most f [] i x at = absurd (cc)
  one_at_most f (y ∷ ys) zero x at =
      let same : y ≡ x = cc in let here : f y ≡ f x = ap f same in let all = sum_by-cons f y ys in omega (arith, here, all)
  one_at_most f (y ∷ ys) (suc i) x at = let rest = one_at_most f ys i x at in let all = sum_by-cons f y ys in omega (arith, rest, all)

  -- two elements at different indices have together at most the sum
  pub two_at_most : (f : X → ℕ) (xs : List X) (i j : ℕ) (x y : X) → slice_get xs i ≡ Some x → slice_get xs j ≡ Some y → (i ≡ j → ⊥) → f x + f y ≤ sum_by f xs
  two_at_most f [] i j x y at_i at_j apart = absurd (cc)
  two_at_most f (z ∷ zs) zero zero x y at_i at_j apart = absurd (apart refl)
  two_at_most f (z ∷ zs) zero (suc j) x y at_i at_j apart =
      let same : z ≡ x = cc in let here : f z ≡ f x = ap f same in let rest = one_at_most f zs j y at_j in let all = sum_by-cons f z zs in
      omega (arith, here, rest, all)
  two_at_most f (z ∷ zs) (suc i) zero x y at_i at_j apart =
      let same : z ≡ y = cc in let here : f z ≡ f y = ap f same in let rest = one_at_most f zs i x at_i in let all = sum_by-cons f z zs in
      omega (arith, here, rest, all)
  two_at_most f (z ∷ zs) (suc i) (suc j) x y at_i at_j apart =
      let rest = two_at_most f zs i j x y at_i at_j (λ e. apart (ap suc e)) in let all = sum_by-cons f z zs in omega (arith, rest, all)
