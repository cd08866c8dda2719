-- Lemmas on the definitions of `specs/Amounts.antt`: what proofs cite.
use Rattle.std.specs.Prelude.{◌≡◌, ℕ, zero, suc, ◌+◌, ◌-◌, ◌≤◌, Bool, true, false, IsTrue, if◌then◌else◌, not, ◌&&◌, List, [], refl, None, Some, unwrap_or}
use Rattle.std.specs.Ordering.{eq_by_cmp}
use Rattle.std.specs.declared.cmp.Ordering.{Ordering}
use Rattle.std.specs.declared.cmp.Ordering.TheVariants.{Equal}
use Rattle.std.specs.Cmp.{eq_by_cmp_equiv}
use Rattle.std.specs.FinMap.{entries, entries_sorted, get, insert, from_sorted, find, put, is_sorted, get-entries, get-insert, get-from_sorted, entries-insert, entries-from_sorted, same_map}
use Rattle.std.specs.FinMap.Entries.{where_key, is_sorted-where_key, find-where_key}
use Rattle.std.proofs.Common.{sym, ap, ◌∙◌, subst, arith, T}
use Rattle.amounts.specs.Rows.{amount_if, sum_where, raised_rows, raised, IsPositive}
use Rattle.amounts.proofs.Lemmas.Rows.{IsKeyOrder, raised_same, amount_if-zero, sum_where_alike, sum_where_at_most, sum_where_split, sum_where-where_key, sum_where-find, is_sorted-raised_rows, find-raised_rows, IsPositive-raised_rows, lowered_rows, is_sorted-lowered_rows, raised_rows-lowered_rows, sum_where_tied, sum_where-put}
use Rattle.amounts.specs.Amounts.{Amounts, empty, amount, rows, total, restriction, with_amount}

module _ {K : Type 0} {R : K → K → Ordering} where
  -- a test that answers alike gives the same total
  pub total_alike : (p q : K → Bool) (m : Amounts R) → ((k : K) → p k ≡ q k) → total p m ≡ total q m
  unfolding total
  total_alike p q m same = sum_where_alike p q (rows m) same

  -- a test that passes more keys gives no smaller total
  pub total_at_most : (p q : K → Bool) (m : Amounts R) → ((k : K) → IsTrue (p k) → IsTrue (q k)) → total p m ≤ total q m
  unfolding total
  total_at_most p q m more = sum_where_at_most p q (rows m) more

  -- the keys strictly rise
  pub rows_sorted : (m : Amounts R) → T (is_sorted R (rows m))
  unfolding rows
  rows_sorted m = subst T (sym (is_sorted-raised_rows R (entries m))) (entries_sorted m)

  pub find-rows : (m : Amounts R) (k : K) → unwrap_or (find R k (rows m)) 0 ≡ amount m k
  unfolding rows amount
  find-rows m k = find-raised_rows R k (entries m) ∙ ap raised (sym (get-entries m k))

  -- no row has amount 0
  pub rows_positive : (m : Amounts R) → IsPositive (rows m)
  unfolding rows
  rows_positive m = IsPositive-raised_rows (entries m)

  -- rows in order, with no amount 0, are those of a map
  pub with_rows : (es : List (K × ℕ)) → T (is_sorted R es) → IsPositive es → (m : Amounts R) × (rows m ≡ es)
  unfolding rows
  with_rows es in_order positive =
      (from_sorted (lowered_rows es), ap raised_rows (entries-from_sorted R (lowered_rows es) (subst T (sym (is_sorted-lowered_rows R es)) in_order)) ∙ raised_rows-lowered_rows es positive)

  pub total-rows : (p : K → Bool) (m : Amounts R) → sum_where p (rows m) ≡ total p m
  unfolding total
  total-rows p m = refl

module _ {K : Type 0} {R : K → K → Ordering} (o : IsKeyOrder R) where
  -- ---- what needs the maps' own form
  pub amount-empty : (k : K) → amount (empty {R = R}) k ≡ 0
  unfolding amount empty
  amount-empty k = ap raised (get-from_sorted R [] k tt)

  pub total-empty : (p : K → Bool) → total p (empty {R = R}) ≡ 0
  unfolding total rows empty
  total-empty p = ap (λ es. sum_where p (raised_rows es)) (entries-from_sorted R [] tt)

  -- two maps with the same amount at each key are one
  pub same_amounts : (m n : Amounts R) → ((k : K) → amount m k ≡ amount n k) → m ≡ n
  unfolding amount
  same_amounts m n same = same_map o.total o.exact m n (λ k. raised_same _ _ (same k))

  -- ---- amounts and totals of a restriction, and with another amount at one key
  entries-restriction : (p : K → Bool) (m : Amounts R) → entries (restriction p m) ≡ where_key R p (entries m)
  unfolding restriction
  entries-restriction p m = entries-from_sorted R _ (is_sorted-where_key R p (entries m) (entries_sorted m))

  alike_keys : (p : K → Bool) (q x : K) → R q x ≡ Equal → p x ≡ p q
  alike_keys p q x t = ap p (sym (o.exact q x t))

  if_found : (b : Bool) (f : _) → raised (if b then f else None) ≡ amount_if b (raised f)
  if_found true f = refl
  if_found false f = refl

  pub amount-restriction : (p : K → Bool) (m : Amounts R) (q : K) → amount (restriction p m) q ≡ amount_if (p q) (amount m q)
  unfolding amount restriction
  amount-restriction p m q =
      ap raised (get-from_sorted R _ q (is_sorted-where_key R p (entries m) (entries_sorted m)) ∙ find-where_key R p q (alike_keys p q) (entries m) ∙ ap (λ f. if p q then f else None) (sym (get-entries m q)))
      ∙ if_found (p q) (get m q)

  pub total-restriction : (p q : K → Bool) (m : Amounts R) → total p (restriction q m) ≡ total (λ k. q k && p k) m
  unfolding total rows
  total-restriction p q m = ap (λ es. sum_where p (raised_rows es)) (entries-restriction q m) ∙ sum_where-where_key R p q (entries m)

  -- what is at a key is the total at that key alone
  pub amount-total : (m : Amounts R) (k : K) → amount m k ≡ total (eq_by_cmp R k) m
  amount-total m k = sym (sum_where-find o k (rows m) (rows_sorted m) ∙ find-rows m k) ∙ total-rows (eq_by_cmp R k) m

  -- the keys that pass a further test, and those that don't
  pub total_split : (p q : K → Bool) (m : Amounts R) → total p m ≡ total (λ k. q k && p k) m + total (λ k. not (q k) && p k) m
  unfolding total rows
  total_split p q m = sum_where_split p q (rows m)

  total_tied : (p : K → Bool) (k : K) (m : Amounts R) → total (λ x. eq_by_cmp R k x && p x) m ≡ amount_if (p k) (amount m k)
  unfolding total rows
  total_tied p k m = sum_where_tied o p k (rows m) ∙ ap (amount_if (p k)) (sym (amount-total m k))

  if_turned : (b : Bool) (v n : ℕ) → amount_if (not b) n ≡ (if b then 0 else n)
  if_turned true v n = refl
  if_turned false v n = refl

  suc_found : (b : Bool) (n : ℕ) (f : _) → raised (if b then Some n else f) ≡ (if b then suc n else raised f)
  suc_found true n f = refl
  suc_found false n f = refl

  raised_insert : (m : Amounts R) (k : K) (n : ℕ) (q : K) → amount (insert m k n) q ≡ (if eq_by_cmp R q k then suc n else amount m q)
  unfolding amount
  raised_insert m k n q = ap raised (get-insert o.total m k n q) ∙ suc_found (eq_by_cmp R q k) n (get m q)

  total_insert : (p : K → Bool) (m : Amounts R) (k : K) (n : ℕ) → total p (insert m k n) + amount_if (p k) (amount m k) ≡ total p m + amount_if (p k) (suc n)
  unfolding total rows amount
  total_insert p m k n =
      ap (λ es. sum_where p (raised_rows es) + amount_if (p k) (raised (get m k))) (entries-insert o.total m k n)
      ∙ ap (λ f. sum_where p (raised_rows (put R k n (entries m))) + amount_if (p k) (raised f)) (get-entries m k)
      ∙ sum_where-put o p k n (entries m) (entries_sorted m)

  pub amount-with_amount : (m : Amounts R) (k : K) (a : ℕ) (q : K) → amount (with_amount m k a) q ≡ (if eq_by_cmp R q k then a else amount m q)
  unfolding with_amount
  amount-with_amount m k zero q =
      amount-restriction (λ x. not (eq_by_cmp R k x)) m q ∙ ap (λ b. amount_if (not b) (amount m q)) ((eq_by_cmp_equiv o.total).symm k q) ∙ if_turned (eq_by_cmp R q k) 0 (amount m q)
  amount-with_amount m k (suc n) q = raised_insert m k n q

  pub total-with_amount : (p : K → Bool) (m : Amounts R) (k : K) (a : ℕ) → total p (with_amount m k a) + amount_if (p k) (amount m k) ≡ total p m + amount_if (p k) a
  unfolding with_amount
  total-with_amount p m k zero =
      let without : total p (restriction (λ x. not (eq_by_cmp R k x)) m) ≡ total (λ x. not (eq_by_cmp R k x) && p x) m = total-restriction p (λ x. not (eq_by_cmp R k x)) m in
      let split : total p m ≡ total (λ x. eq_by_cmp R k x && p x) m + total (λ x. not (eq_by_cmp R k x) && p x) m = total_split p (eq_by_cmp R k) m in
      let here : total (λ x. eq_by_cmp R k x && p x) m ≡ amount_if (p k) (amount m k) = total_tied p k m in
      let nothing : amount_if (p k) 0 ≡ 0 = amount_if-zero (p k) in
      omega (arith, without, split, here, nothing)
  total-with_amount p m k (suc n) = total_insert p m k n
