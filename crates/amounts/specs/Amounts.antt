-- Finite maps from keys to amounts above 0: what bundles, accounts, traps and burns are made of.
-- Two maps with the same amount at each key are one map, and a map has no row with amount 0. This is the project's own vocabulary.
--     Amounts R      a map whose keys have the order R
--     amount m k      what the map has at a key, or 0
--     rows m      its keys in order, each with its amount
--     total p m      the amounts at the keys that pass the test p, added up
--     empty, single k a, from_rows es      maps with nothing, with one amount, and with the rows of a list added up
--     with_amount m k a, plus m k a, minus m k a      the same but at one key: this amount there, this much more, this much less
--     merge m n, difference m n      at each key the sum; what m has more than n
--     lesser m n      at each key the lesser amount
--     restriction p m      the amounts at the keys that pass the test
--     map_keys f m      the amounts under other keys. Those that come under one key are added up
--     IsWithin m n      at no key has m more than n
use Rattle.std.specs.Prelude.{ℕ, zero, suc, ◌+◌, ◌-◌, ◌≤◌, Bool, not, List, [], ◌∷◌}
use Rattle.std.specs.Ordering.{eq_by_cmp}
use Rattle.std.specs.declared.cmp.Ordering.{Ordering}
use Rattle.std.specs.FinMap.{FinMap, entries, get, insert, from_sorted}
use Rattle.std.specs.FinMap.Entries.{where_key}
use Rattle.amounts.specs.Rows.{sum_where, rows_at, raised_rows, raised}

abbrev pub Amounts : {K : Type 0} → (K → K → Ordering) → Type 0
Amounts R = FinMap R ℕ

module _ {K : Type 0} {R : K → K → Ordering} where
  unfoldable pub empty : Amounts R
  empty = from_sorted []

  -- what the map has at a key, or 0
  unfoldable pub amount : Amounts R → K → ℕ
  amount m k = raised (get m k)

  -- the keys in order, each with its amount
  unfoldable pub rows : Amounts R → List (K × ℕ)
  rows m = raised_rows (entries m)

  -- the amounts at the keys that pass, added up
  unfoldable pub total : (K → Bool) → Amounts R → ℕ
  unfolding rows
  total p m = sum_where p (rows m)

  -- the amounts at the keys that pass
  unfoldable pub restriction : (K → Bool) → Amounts R → Amounts R
  restriction p m = from_sorted (where_key R p (entries m))

  -- the same but for one key, which has this amount
  unfoldable pub with_amount : Amounts R → K → ℕ → Amounts R
  unfolding restriction
  with_amount m k zero = restriction (λ x. not (eq_by_cmp R k x)) m
  with_amount m k (suc n) = insert m k n

  -- one amount
  unfoldable pub single : K → ℕ → Amounts R
  single k a = with_amount empty k a

  -- so much more at a key
  unfoldable pub plus : Amounts R → K → ℕ → Amounts R
  plus m k a = with_amount m k (amount m k + a)

  -- so much less at a key, and nothing there where it has no more
  unfoldable pub minus : Amounts R → K → ℕ → Amounts R
  minus m k a = with_amount m k (amount m k - a)

  -- each row added
  unfoldable pub plus_all : Amounts R → List (K × ℕ) → Amounts R
  plus_all m [] = m
  plus_all m (e ∷ es) = plus_all (plus m e.0 e.1) es

  -- each row taken off
  unfoldable pub minus_all : Amounts R → List (K × ℕ) → Amounts R
  minus_all m [] = m
  minus_all m (e ∷ es) = minus_all (minus m e.0 e.1) es

  -- the rows of a list, added up
  unfoldable pub from_rows : List (K × ℕ) → Amounts R
  from_rows es = plus_all empty es

  -- the sum at each key
  unfoldable pub merge : Amounts R → Amounts R → Amounts R
  merge m n = plus_all m (rows n)

  -- what the first has more than the second
  unfoldable pub difference : Amounts R → Amounts R → Amounts R
  difference m n = minus_all m (rows n)

  -- the lesser amount at each key
  unfoldable pub lesser : Amounts R → Amounts R → Amounts R
  lesser m n = difference m (difference m n)

  -- at no key more than the other
  abbrev pub IsWithin : Amounts R → Amounts R → Type 0
  IsWithin m n = (k : K) → amount m k ≤ amount n k

-- the amounts under other keys; those that come under one key are added up
unfoldable pub map_keys : {J K : Type 0} {S : J → J → Ordering} {R : K → K → Ordering} → (J → K) → Amounts S → Amounts R
map_keys f m = from_rows (rows_at f (rows m))
