-- The rows after an account, in order: the first that says more than 0 is that of the next account.
use Rattle.std.proofs.Common.{◌≡◌, ℕ, ◌<◌, Bool, true, false, cond, if◌then◌else◌, filter, List, [], ◌∷◌, BTreeMap, refl, sym, ap, ◌∙◌, subst, arith, true≢false}
use Rattle.std.specs.Prelude.{Option, None, Some, unwrap_or}
use Rattle.std.specs.Ordering.{eq_by_cmp, nat_cmp, is_eq, is_le, is_gt, ordering_then, ordering_reverse}
use Rattle.std.specs.declared.cmp.Ordering.TheVariants.{Less}
use Rattle.std.specs.declared.ops.Bound.TheVariants.{Included, Unbounded}
use Rattle.std.specs.BTreeMap.{get}
use Rattle.std.specs.BTreeMap.Range.{range_contains, entries_between, IsEntryInRange}
use Rattle.std.specs.Map.{lookup, keys_of}
use Rattle.std.specs.List.{All, AllByRecursion}
use Rattle.std.specs.List.Sorted.{IsStrictlySortedBy}
use Rattle.std.proofs.lemmas.Bool.{and_from}
use Rattle.std.proofs.lemmas.List.Kept.{IsStrictlySortedBy-filter}
use Rattle.std.proofs.lemmas.List.Elements.{All-same, recursion_from_All}
use Rattle.std.proofs.lemmas.Map.Entries.{lookup-filter-keys}
use Rattle.amounts.proofs.Lemmas.{key_same}
use Rattle.ledgers.specs.Ledgers.{account_cmp, IsAfter}
use Rattle.ledgers.specs.LedgerRows.{AmountKey, amount_key_cmp, amount_in_row, IsNextRow}
use Rattle.ledgers.proofs.Lemmas.{account_keys}
use Rattle.ledgers.proofs.RowLookups.{amount_keys, same_as}
use Rattle.ledgers.proofs.NextAccounts.{nothing, row_passed}
use Rattle.plain_lists.proofs.Lemmas.Facts.{first_not_greater as first_le}

-- ---- keys by account, then by number
-- a later row isn't of an account before
pub not_behind : (k q : AmountKey) → amount_key_cmp k q ≡ Less → account_cmp q.0 k.0 ≡ Less → ⊥
not_behind k q later before =
    true≢false (sym (ap is_gt (account_keys.total.antisymm k.0 q.0 ∙ ap ordering_reverse before)) ∙ first_le (account_cmp k.0 q.0) (nat_cmp k.1 q.1) (ap is_gt later))

-- a row that is found is one of those that come later
later_row : (k q : AmountKey) (rest : List (AmountKey × ℕ)) → AllByRecursion (λ p. amount_key_cmp k p ≡ Less) (keys_of rest) → 0 < amount_in_row rest q → amount_key_cmp k q ≡ Less
later_row k q [] later some = absurd (omega (arith, some))
later_row k q (e ∷ rest) later some = by (later_row k q rest later.1) (eq_by_cmp amount_key_cmp q e.0) refl some
  where
    by : (0 < amount_in_row rest q → amount_key_cmp k q ≡ Less) → (b : Bool) → eq_by_cmp amount_key_cmp q e.0 ≡ b → 0 < unwrap_or (if b then Some e.1 else lookup (eq_by_cmp amount_key_cmp q) rest) 0 → amount_key_cmp k q ≡ Less
    by further true t there = subst (λ p. amount_key_cmp k p ≡ Less) (sym (key_same amount_keys q e.0 t)) later.0
    by further false f there = further there

-- ---- the rows that are left
pub record IsAhead (after : Option (List ℕ)) (rows : BTreeMap AmountKey ℕ) (rest : List (AmountKey × ℕ)) : Type 0 where
  pub ahead : (k : AmountKey) → IsAfter after k.0 → 0 < amount_in_row rows.entries k → 0 < amount_in_row rest k
  pub each : AllByRecursion (λ e. get amount_key_cmp rows e.0 ≡ Some e.1) rest
  pub sorted : IsStrictlySortedBy amount_key_cmp (keys_of rest)

keys-filter : (p : AmountKey → Bool) (es : List (AmountKey × ℕ)) → keys_of (filter (λ e. p e.0) es) ≡ filter p (keys_of es)
keys-filter p [] = refl
keys-filter p (e ∷ es) = by (keys-filter p es) (p e.0)
  where
    by : keys_of (filter (λ d. p d.0) es) ≡ filter p (keys_of es) → (b : Bool) → keys_of (cond b (e ∷ filter (λ d. p d.0) es) (filter (λ d. p d.0) es)) ≡ cond b (e.0 ∷ filter p (keys_of es)) (filter p (keys_of es))
    by further true = ap (λ ks. e.0 ∷ ks) further
    by further false = further

each_found : (lo : AmountKey) (rows : BTreeMap AmountKey ℕ) (rest : List (AmountKey × ℕ)) → AllByRecursion (IsEntryInRange amount_key_cmp (Included lo) Unbounded rows) rest → AllByRecursion (λ e. get amount_key_cmp rows e.0 ≡ Some e.1) rest
each_found lo rows [] each = tt
each_found lo rows (e ∷ rest) each = (each.0.1, each_found lo rows rest each.1)

module _ (rows : BTreeMap AmountKey ℕ) (lo : AmountKey) where
  in_range : AmountKey → Bool
  in_range q = range_contains amount_key_cmp (Included lo) Unbounded q

  pub sorted_from : (rest : List (AmountKey × ℕ)) → rest ≡ entries_between amount_key_cmp (Included lo) Unbounded rows.entries → IsStrictlySortedBy amount_key_cmp (keys_of rows.entries) → IsStrictlySortedBy amount_key_cmp (keys_of rest)
  unfolding in_range
  sorted_from rest is sorted = subst (λ es. IsStrictlySortedBy amount_key_cmp (keys_of es)) (sym is) (subst (IsStrictlySortedBy amount_key_cmp) (sym (keys-filter in_range rows.entries)) (IsStrictlySortedBy-filter amount_key_cmp in_range (keys_of rows.entries) sorted))

  -- all rows of later accounts are among those from a row of the account on
  pub all_ahead : (rest : List (AmountKey × ℕ)) → rest ≡ entries_between amount_key_cmp (Included lo) Unbounded rows.entries
      → AllByRecursion (IsEntryInRange amount_key_cmp (Included lo) Unbounded rows) rest → IsStrictlySortedBy amount_key_cmp (keys_of rows.entries) → IsAhead (Some lo.0) rows rest
  unfolding in_range
  all_ahead rest is each sorted = record {
    ahead = λ q less some. subst (λ v. 0 < v) (sym (ap (λ es. amount_in_row es q) is
        ∙ ap (λ o. unwrap_or o 0) (lookup-filter-keys (eq_by_cmp amount_key_cmp q) in_range true (λ k t. ap in_range (sym (key_same amount_keys q k t)) ∙ within q less) rows.entries))) some;
    each = each_found lo rows rest each;
    sorted = sorted_from rest is sorted;
  }
    where
      within : (q : AmountKey) → account_cmp lo.0 q.0 ≡ Less → in_range q ≡ true
      within q less = and_from _ _ (ap (λ o. is_le (ordering_then o (nat_cmp lo.1 q.1))) less) refl

pub sorted_rest : (e : AmountKey × ℕ) (rest : List (AmountKey × ℕ)) → IsStrictlySortedBy amount_key_cmp (keys_of (e ∷ rest)) → IsStrictlySortedBy amount_key_cmp (keys_of rest)
unfolding IsStrictlySortedBy
sorted_rest e rest sorted = sorted.1

pub sorted_behind : (e : AmountKey × ℕ) (rest : List (AmountKey × ℕ)) → IsStrictlySortedBy amount_key_cmp (keys_of (e ∷ rest)) → AllByRecursion (λ q. amount_key_cmp e.0 q ≡ Less) (keys_of rest)
unfolding IsStrictlySortedBy
sorted_behind e rest sorted = sorted.0

module _ (after : Option (List ℕ)) (rows : BTreeMap AmountKey ℕ) where
  pub row_left : (e : AmountKey × ℕ) (rest : List (AmountKey × ℕ)) → (IsAfter after e.0.0 → 0 < e.1 → ⊥) → IsAhead after rows (e ∷ rest) → IsAhead after rows rest
  unfolding IsStrictlySortedBy
  row_left e rest other h = record {
    ahead = λ k later some. row_passed e rest k (λ is positive. other (subst (λ (q : AmountKey). IsAfter after q.0) is later) positive) (h.ahead k later some);
    each = h.each.1;
    sorted = h.sorted.1;
  }

  pub none_left : (rest : List (AmountKey × ℕ)) → rest ≡ [] → IsAhead after rows rest → (k : AmountKey) → IsAfter after k.0 → amount_in_row rows.entries k ≡ 0
  none_left rest is h k later = nothing (amount_in_row rows.entries k) (λ some. subst (λ es. 0 < amount_in_row es k) is (h.ahead k later some))

  pub row_found : (e : AmountKey × ℕ) (rest : List (AmountKey × ℕ)) → IsAhead after rows (e ∷ rest) → IsAfter after e.0.0 → 0 < e.1 → IsNextRow after rows.entries e.0.0
  unfolding IsStrictlySortedBy
  row_found e rest h later positive = record {
    number = e.0.1;
    has = subst (λ v. 0 < v) (sym (ap (λ o. unwrap_or o 0) h.each.0)) positive;
    later = later;
    least = λ k after_it before. nothing (amount_in_row rows.entries k) (λ some.
        let there = row_passed e rest k (λ is _. true≢false (sym (same_as account_keys k.0 e.0.0 (ap (λ (q : AmountKey). q.0) is)) ∙ ap is_eq before)) (h.ahead k after_it some) in
        absurd (not_behind e.0 k (later_row e.0 k rest h.sorted.0 there) before));
  }

-- before the first account all rows are ahead
pub whole_ahead : (rows : BTreeMap AmountKey ℕ) (rest : List (AmountKey × ℕ)) → rest ≡ rows.entries → All (λ e. get amount_key_cmp rows e.0 ≡ Some e.1) rows.entries → IsStrictlySortedBy amount_key_cmp (keys_of rows.entries) → IsAhead None rows rest
whole_ahead rows rest is found sorted = record {
  ahead = λ k later some. subst (λ es. 0 < amount_in_row es k) (sym is) some;
  each = recursion_from_All (λ e. get amount_key_cmp rows e.0 ≡ Some e.1) rest (All-same (λ e. get amount_key_cmp rows e.0 ≡ Some e.1) _ _ is found);
  sorted = subst (λ es. IsStrictlySortedBy amount_key_cmp (keys_of es)) (sym is) sorted;
}
