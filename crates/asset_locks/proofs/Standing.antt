-- The locks after the list of them is changed at one index.
use Rattle.std.proofs.Common.{◌≡◌, ℕ, ◌<◌, ◌≤◌, Bool, true, false, not, List, [], ◌∷◌, map, get_or, set, Some, None, refl, sym, ap, ◌∙◌, subst, arith, T}
use Rattle.std.specs.Prelude.{if◌then◌else◌, Option, unwrap_or, max}
use Rattle.std.specs.Ordering.{eq_by_cmp}
use Rattle.std.specs.declared.cmp.Ordering.{Ordering}
use Rattle.std.specs.Cmp.{eq_by_cmp_equiv}
use Rattle.std.specs.List.{insert, remove}
use Rattle.std.specs.Map.{lookup}
use Rattle.std.specs.FinMap.{find, put, is_sorted}
use Rattle.std.specs.FinMap.Entries.{where_key, is_sorted-put, find-put, is_sorted-where_key, find-where_key}
use Rattle.amounts.specs.Rows.{IsPositive}
use Rattle.amounts.proofs.Lemmas.Rows.{IsKeyOrder, keys_rising}
use Rattle.amounts.specs.Amounts.{Amounts, amount, rows, with_amount}
use Rattle.amounts.proofs.Lemmas.AmountLaws.{same_amounts, amount-with_amount}
use Rattle.amounts.proofs.Lemmas.{key_same}
use Rattle.amounts.specs.Entries.{from_entries}
use Rattle.amounts.proofs.Lemmas.Entries.{amount-from_entries, from_entries_changed, rows-from_entries}
use Rattle.asset_locks.specs.declared.lock.Lock.{Lock}
use Rattle.asset_locks.specs.LockMaps.{LockKey, lock_cmp, lock_of}
use Rattle.asset_locks.specs.LockRows.{key_of, lock_row_of, locks_in, AreSortedLocks, IsAt, IsGapFor}
use Rattle.asset_locks.proofs.Lemmas.{lock_keys}
use Rattle.asset_locks.proofs.Edits.{set_put, insert_put, remove_where, find_at, find_gap, positive_put, positive_where}

-- ---- entries put in, and taken out, as what the map of the entries is
module _ {K : Type 0} {R : K → K → Ordering} (o : IsKeyOrder R) where
  pub lookup-find : (q : K) (es : List (K × ℕ)) → lookup (eq_by_cmp R q) es ≡ find R q es
  lookup-find q [] = refl
  lookup-find q (e ∷ es) = ap (λ r. if eq_by_cmp R q e.0 then Some e.1 else r) (lookup-find q es)

  without : (b : Bool) (r : Option ℕ) → (if not b then r else None) ≡ (if b then None else r)
  without true r = refl
  without false r = refl

  pub with_put : (k : K) (v : ℕ) (es : List (K × ℕ)) → from_entries {R = R} (put R k v es) ≡ with_amount (from_entries es) k v
  with_put k v es = from_entries_changed o es (put R k v es) k (Some v) (λ q.
      lookup-find q (put R k v es) ∙ find-put R o.total q k v es ∙ ap (λ r. if eq_by_cmp R q k then Some v else r) (sym (lookup-find q es)))

  pub with_none : (k : K) (es : List (K × ℕ)) → from_entries {R = R} (where_key R (λ x. not (eq_by_cmp R k x)) es) ≡ with_amount (from_entries es) k 0
  with_none k es = from_entries_changed o es (where_key R (λ x. not (eq_by_cmp R k x)) es) k None (λ q.
      lookup-find q (where_key R (λ x. not (eq_by_cmp R k x)) es)
      ∙ find-where_key R (λ x. not (eq_by_cmp R k x)) q (λ x t. ap (λ y. not (eq_by_cmp R k y)) (sym (o.exact q x t))) es
      ∙ without (eq_by_cmp R k q) (find R q es)
      ∙ ap (λ b. if b then None else find R q es) ((eq_by_cmp_equiv o.total).symm k q)
      ∙ ap (λ r. if eq_by_cmp R q k then None else r) (sym (lookup-find q es)))

  pub amount_found : (k : K) (es : List (K × ℕ)) (r : Option ℕ) → find R k es ≡ r → amount (from_entries {R = R} es) k ≡ unwrap_or r 0
  amount_found k es r is = amount-from_entries o es k ∙ ap (λ f. unwrap_or f 0) (lookup-find k es ∙ is)

-- ---- a list of locks with another amount at an index, one more, one less
module _ (locks : List Lock) (order : AreSortedLocks locks) (key : LockKey) (place : ℕ) where
  pub amount_at : IsAt locks key place → (d : Lock) → amount (locks_in locks) key ≡ (get_or locks place d).amount
  amount_at at d = amount_found lock_keys key (map lock_row_of locks) _ (find_at lock_keys lock_row_of key locks place d order.rising at.within at.is)

  pub amount_gap : IsGapFor locks key place → amount (locks_in locks) key ≡ 0
  amount_gap gap = amount_found lock_keys key (map lock_row_of locks) _ (find_gap lock_keys lock_row_of key locks place gap.within (λ j d lt. gap.before j d (omega arith) lt) (λ j d more within. gap.behind j d more within))

  order_put : (new : List Lock) (a : ℕ) → 0 < a → map lock_row_of new ≡ put lock_cmp key a (map lock_row_of locks) → AreSortedLocks new
  order_put new a some is = record {
    rising = subst (λ es. T (is_sorted lock_cmp es)) (sym is) (is_sorted-put lock_cmp lock_keys.total key a (map lock_row_of locks) order.rising);
    positive = subst IsPositive (sym is) (positive_put lock_cmp key a (map lock_row_of locks) some order.positive);
  }

  put_is : (new : List Lock) (a : ℕ) → map lock_row_of new ≡ put lock_cmp key a (map lock_row_of locks) → locks_in new ≡ with_amount (locks_in locks) key a
  put_is new a is = ap (λ es. from_entries {R = lock_cmp} es) is ∙ with_put lock_keys key a (map lock_row_of locks)

  pub set_in_order : IsAt locks key place → (new : Lock) → key_of new ≡ key → 0 < new.amount → AreSortedLocks (set locks place new)
  set_in_order at new same some = order_put (set locks place new) new.amount some (set_put lock_keys lock_row_of key locks place new order.rising at.within at.is same)

  pub set_is : IsAt locks key place → (new : Lock) → key_of new ≡ key → locks_in (set locks place new) ≡ with_amount (locks_in locks) key new.amount
  set_is at new same = put_is (set locks place new) new.amount (set_put lock_keys lock_row_of key locks place new order.rising at.within at.is same)

  insert_rows : IsGapFor locks key place → (new : Lock) → key_of new ≡ key → map lock_row_of (insert locks place new) ≡ put lock_cmp key new.amount (map lock_row_of locks)
  insert_rows gap new same = insert_put lock_keys lock_row_of key locks place new gap.within (λ j d lt. gap.before j d (omega arith) lt) (λ j d more within. gap.behind j d more within) same

  pub insert_in_order : IsGapFor locks key place → (new : Lock) → key_of new ≡ key → 0 < new.amount → AreSortedLocks (insert locks place new)
  insert_in_order gap new same some = order_put (insert locks place new) new.amount some (insert_rows gap new same)

  pub insert_is : IsGapFor locks key place → (new : Lock) → key_of new ≡ key → locks_in (insert locks place new) ≡ with_amount (locks_in locks) key new.amount
  insert_is gap new same = put_is (insert locks place new) new.amount (insert_rows gap new same)

  remove_rows : IsAt locks key place → map lock_row_of (remove locks place) ≡ where_key lock_cmp (λ x. not (eq_by_cmp lock_cmp key x)) (map lock_row_of locks)
  remove_rows at = remove_where lock_keys lock_row_of key locks place order.rising at.within at.is

  pub remove_in_order : IsAt locks key place → AreSortedLocks (remove locks place)
  remove_in_order at = record {
    rising = subst (λ es. T (is_sorted lock_cmp es)) (sym (remove_rows at)) (is_sorted-where_key lock_cmp (λ x. not (eq_by_cmp lock_cmp key x)) (map lock_row_of locks) order.rising);
    positive = subst IsPositive (sym (remove_rows at)) (positive_where lock_cmp (λ x. not (eq_by_cmp lock_cmp key x)) (map lock_row_of locks) order.positive);
  }

  pub remove_is : IsAt locks key place → locks_in (remove locks place) ≡ with_amount (locks_in locks) key 0
  remove_is at = ap (λ es. from_entries {R = lock_cmp} es) (remove_rows at) ∙ with_none lock_keys key (map lock_row_of locks)

-- ---- what the code does at an index
as_it_was : {K : Type 0} {R : K → K → Ordering} (o : IsKeyOrder R) (m : Amounts R) (k : K) (v : ℕ) → v ≡ amount m k → with_amount m k v ≡ m
as_it_was {R = R} o m k v is = same_amounts o (with_amount m k v) m (λ q.
    amount-with_amount o m k v q
    ∙ elim (eq_by_cmp R q k) as (λ b. eq_by_cmp R q k ≡ b → (if b then v else amount m q) ≡ amount m q) [
      | true ↦ λ t. is ∙ ap (amount m) (sym (key_same o q k t))
      | false ↦ λ t. refl
    ] refl)

with_said : {K : Type 0} {R : K → K → Ordering} (m n : Amounts R) (k : K) (v w : ℕ) → n ≡ with_amount m k v → v ≡ w → n ≡ with_amount m k w
with_said m n k v w is same = is ∙ ap (with_amount m k) same

module _ (slice items : List Lock) (key : LockKey) (same : slice ≡ items) where
  pub at_items : (place : ℕ) → IsAt slice key place → IsAt items key place
  at_items place at = subst (λ xs. IsAt xs key place) same at

  pub gap_items : (place : ℕ) → IsGapFor slice key place → IsGapFor items key place
  gap_items place gap = subst (λ xs. IsGapFor xs key place) same gap

module _ (locks : List Lock) (order : AreSortedLocks locks) (key : LockKey) (place : ℕ) (at : IsAt locks key place) (d : Lock) (is : d ≡ get_or locks place d) where
  new_key : (a : ℕ) → key_of (record d { amount = a }) ≡ key
  new_key a = ap key_of is ∙ at.is d

  amount_there : amount (locks_in locks) key ≡ d.amount
  amount_there = amount_at locks order key place at d ∙ ap (λ (l : Lock). l.amount) (sym is)

  pub written_in_order : (a : ℕ) → 0 < a → AreSortedLocks (set locks place (record d { amount = a }))
  written_in_order a some = set_in_order locks order key place at (record d { amount = a }) (new_key a) some

  pub written_is : (a : ℕ) → locks_in (set locks place (record d { amount = a })) ≡ with_amount (locks_in locks) key a
  written_is a = set_is locks order key place at (record d { amount = a }) (new_key a)

  pub raised_is : (e : Lock) → e ≡ get_or locks place e → (m a : ℕ) → m ≡ max e.amount a → locks_in (set locks place (record d { amount = m })) ≡ with_amount (locks_in locks) key (max (amount (locks_in locks) key) a)
  raised_is e also m a most =
      let there : amount (locks_in locks) key ≡ e.amount = amount_at locks order key place at e ∙ ap (λ (l : Lock). l.amount) (sym also) in
      with_said (locks_in locks) _ key m _ (written_is m) (omega (arith, most, there))

module _ (locks : List Lock) (order : AreSortedLocks locks) (key : LockKey) (place : ℕ) (gap : IsGapFor locks key place) where
  pub new_is : (new : Lock) → key_of new ≡ key → locks_in (insert locks place new) ≡ with_amount (locks_in locks) key (max (amount (locks_in locks) key) new.amount)
  new_is new same =
      let none = amount_gap locks order key place gap in
      with_said (locks_in locks) _ key new.amount _ (insert_is locks order key place gap new same) (omega (arith, none))

  pub nothing_lowered : (a : ℕ) → a ≤ amount (locks_in locks) key → locks_in locks ≡ with_amount (locks_in locks) key a
  nothing_lowered a most =
      let none = amount_gap locks order key place gap in
      sym (as_it_was lock_keys (locks_in locks) key a (omega (arith, none, most)))

-- ---- the lists as the maps' rows
pub rows_in : (locks : List Lock) → AreSortedLocks locks → rows (locks_in locks) ≡ map lock_row_of locks
rows_in locks order = rows-from_entries lock_keys (map lock_row_of locks) (keys_rising lock_cmp (map lock_row_of locks) order.rising) order.positive

pub locks_back : (locks : List Lock) → map lock_of (map lock_row_of locks) ≡ locks
locks_back [] = refl
locks_back (l ∷ ls) = ap (λ xs. l ∷ xs) (locks_back ls)

pub as_raised : {K : Type 0} {R : K → K → Ordering} (o : IsKeyOrder R) (m : Amounts R) (k : K) (a : ℕ) → a ≤ amount m k → m ≡ with_amount m k (max (amount m k) a)
as_raised o m k a le = sym (as_it_was o m k (max (amount m k) a) (omega (arith, le)))
