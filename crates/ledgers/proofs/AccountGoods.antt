-- What the rows of an account say, as a list: each unit once, and in all what the account holds.
use Rattle.std.proofs.Common.{◌≡◌, ℕ, ◌+◌, ◌<◌, ◌≤◌, Bool, true, false, not, ◌&&◌, ◌||◌, cond, if◌then◌else◌, List, [], ◌∷◌, ◌++◌, ◌⊎◌, inl, inr, append_assoc, refl, sym, ap, ◌∙◌, subst, arith, true≢false}
use Rattle.std.specs.Prelude.{Option, None, Some, unwrap_or, slice_get, nat_lt, ⊤}
use Rattle.std.specs.Ordering.{eq_by_cmp, nat_cmp, is_eq, is_gt, is_le, ordering_then}
use Rattle.std.specs.declared.cmp.Ordering.{Ordering}
use Rattle.std.specs.declared.cmp.Ordering.TheVariants.{Less, Equal, Greater}
use Rattle.std.specs.declared.ops.Bound.TheVariants.{Included, Unbounded}
use Rattle.std.specs.BTreeMap.Range.{range_contains, entries_between}
use Rattle.std.specs.List.{AllByRecursion}
use Rattle.std.specs.Cmp.{eq_by_cmp_equiv}
use Rattle.std.specs.Map.{keys_of, lookup}
use Rattle.std.specs.List.Sorted.{IsStrictlySortedBy}
use Rattle.std.proofs.lemmas.Bool.Decides.{nat_tests}
use Rattle.std.proofs.lemmas.Bool.{and_parts, and_from, cases_Bool}
use Rattle.std.proofs.lemmas.List.Sums.{sum_by-append}
use Rattle.amounts.specs.Rows.{sum_where, amount_if}
use Rattle.amounts.proofs.Lemmas.Rows.{amount_if-zero}
use Rattle.amounts.specs.Amounts.{amount, restriction, merge, from_rows}
use Rattle.amounts.proofs.Lemmas.AmountLaws.{amount-restriction, total-restriction}
use Rattle.amounts.proofs.Lemmas.{same_key, key_same, amount-map_keys, from_rows-append, merge-restriction}
use Rattle.asset_lists.specs.declared.units.AssetId.{AssetId}
use Rattle.asset_lists.specs.declared.units.Instance.{Instance}
use Rattle.asset_lists.specs.declared.units.Kind.{Kind}
use Rattle.asset_lists.specs.declared.units.Asset.{Asset}
use Rattle.asset_lists.specs.declared.units.Fun.{Fun}
use Rattle.asset_lists.specs.Units.{Unit, unit_of, amount_of, unit_cmp}
use Rattle.asset_lists.specs.Lists.{has_zero, is_of}
use Rattle.asset_lists.specs.Moves.{occurrences}
use Rattle.asset_bundles.specs.Bundles.{Bundle, rows_of, bundle_of}
use Rattle.asset_bundles.proofs.Lemmas.Bundles.{unit_keys}
use Rattle.asset_bundles.proofs.Lemmas.BundleLaws.{same_bundles, amount-bundle_of}
use Rattle.asset_lists.specs.Listed.{Listed}
use Rattle.ledgers.specs.Ledgers.{Holder, account_cmp, holder_cmp, Held, is_account, account_goods, number_in}
use Rattle.ledgers.specs.LedgerRows.{AmountKey, amount_key_cmp, OwnerKey, owner_key_cmp, amount_in_row, owner_at, owned, held_in, IsOnce}
use Rattle.ledgers.specs.AccountGoods.{IsUnsortedListOf, is_amount, fungible_of, fungible_held_at, owned_instance, instance_held_at}
use Rattle.ledgers.proofs.Lemmas.{holder_keys, account_keys}
use Rattle.ledgers.proofs.RowLookups.{amount_keys, owner_keys, same_as, none_behind, same_owner_row}
use Rattle.ledgers.proofs.RowAmounts.{held-fungible, held-no_fungible, held-instance, held-no_instance}
use Rattle.ledgers.proofs.Numbers.{number_at, no_number}
use Rattle.ledgers.proofs.Totals.{total_one}
use Rattle.ledgers.proofs.AccountMoves.{none_zero, counted_first}
use Rattle.ledgers.proofs.NextRows.{not_behind}
use Rattle.plain_lists.proofs.Lemmas.Facts.{positive_not_zero as above_zero, false_where_not_true as not_true, first_not_greater as first_le, equal_told}

-- ---- what an account holds of a unit
pub amount-account_goods : (who : List ℕ) (held : Held) (u : Unit) → amount (account_goods who held) u ≡ amount held (who, u)
unfolding account_goods
amount-account_goods who held u =
    amount-map_keys {S = holder_cmp} unit_keys (λ (h : Holder). h.1) (restriction (is_account who) held) u
    ∙ total-restriction holder_keys (λ (h : Holder). eq_by_cmp unit_cmp u h.1) (is_account who) held
    ∙ total_one holder_keys (λ (h : Holder). is_account who h && eq_by_cmp unit_cmp u h.1) held (who, u)
    (and_from _ _ (same_key account_keys who) (same_key unit_keys u))
    (λ q passes other.
    let parts = and_parts (is_account who q) (eq_by_cmp unit_cmp u q.1) passes in
    let accounts : who ≡ q.0 = key_same account_keys who q.0 parts.0 in
    let units : u ≡ q.1 = key_same unit_keys u q.1 parts.1 in
    absurd (true≢false (sym (subst (λ k. eq_by_cmp holder_cmp k (who, u) ≡ true) (λ i. (accounts i, units i)) (same_key holder_keys (who, u))) ∙ other)))

-- ---- units counted
sum_at : Unit → List Asset → ℕ
sum_at u xs = sum_where (eq_by_cmp unit_cmp u) (rows_of xs)

one_within : (b c : Bool) (n : ℕ) → c ≡ b → 0 < n → cond {A = ℕ} b 1 0 ≤ amount_if c n
one_within true true n e h = omega (arith, h)
one_within true false n e h = absurd (true≢false (sym e))
one_within false c n e h = omega arith

-- where nothing is 0, a unit is there no oftener than its amounts add up to
count_within : (u : Unit) (xs : List Asset) → has_zero xs ≡ false → occurrences u xs ≤ sum_at u xs
unfolding sum_at
count_within u [] none = omega arith
count_within u (a ∷ xs) none =
    let parts = none_zero a xs none in
    let rest = count_within u xs parts.1 in
    let here = one_within (is_of u a) (eq_by_cmp unit_cmp u (unit_of a)) (amount_of a) ((eq_by_cmp_equiv unit_keys.total).symm u (unit_of a)) parts.0 in
    let count = counted_first u a xs in
    omega (arith, rest, here, count)

none_counted : (u : Unit) (xs : List Asset) → has_zero xs ≡ false → sum_at u xs ≡ 0 → occurrences u xs ≡ 0
none_counted u xs none sum = (let within = count_within u xs none in omega (arith, within, sum))

listed_sum : (goods : Bundle) (xs : List Asset) (u : Unit) → IsUnsortedListOf goods xs → sum_at u xs ≡ amount goods u
unfolding sum_at
listed_sum goods xs u is = sym (amount-bundle_of xs u) ∙ ap (λ b. amount b u) is.whole

-- ---- an asset in front of a list, or none
pub offered : Option Asset → List Asset → List Asset
offered None rest = rest
offered (Some a) rest = a ∷ rest

newly : Unit → Option Asset → ℕ
newly u None = 0
newly u (Some a) = amount_if (eq_by_cmp unit_cmp u (unit_of a)) (amount_of a)

sum_offered : (u : Unit) (o : Option Asset) (rest : List Asset) → sum_at u (offered o rest) ≡ newly u o + sum_at u rest
unfolding sum_at offered newly
sum_offered u None rest = omega arith
sum_offered u (Some a) rest = refl

IsAbove : Option Asset → Type 0
IsAbove None = ⊤
IsAbove (Some a) = 0 < amount_of a

no_zero_offered : (o : Option Asset) (rest : List Asset) → IsAbove o → has_zero rest ≡ false → has_zero (offered o rest) ≡ false
unfolding offered IsAbove
no_zero_offered None rest above none = none
no_zero_offered (Some a) rest above none = ap (λ b. b || has_zero rest) (above_zero (amount_of a) above) ∙ none

is_some_amount : (n : ℕ) → nat_lt 0 n ≡ true → 0 < n
is_some_amount n h = grind (arith, h)

is_no_amount : (n : ℕ) → nat_lt 0 n ≡ false → 0 ≡ n
is_no_amount n h = grind (arith, h)

above_if : (n : ℕ) (a : Asset) → (0 < n → 0 < amount_of a) → IsAbove (if nat_lt 0 n then Some a else None)
unfolding IsAbove
above_if n a h = by (nat_lt 0 n) refl
  where
    by : (b : Bool) → nat_lt 0 n ≡ b → IsAbove (if b then Some a else None)
    by true e = h (is_some_amount n e)
    by false e = tt

newly_if : (u : Unit) (n : ℕ) (a : Asset) → (0 < n → amount_of a ≡ n) → newly u (if nat_lt 0 n then Some a else None) ≡ amount_if (eq_by_cmp unit_cmp u (unit_of a)) n
unfolding newly
newly_if u n a h = by (nat_lt 0 n) refl
  where
    by : (b : Bool) → nat_lt 0 n ≡ b → newly u (if b then Some a else None) ≡ amount_if (eq_by_cmp unit_cmp u (unit_of a)) n
    by true e = ap (amount_if (eq_by_cmp unit_cmp u (unit_of a))) (h (is_some_amount n e))
    by false e = sym (amount_if-zero (eq_by_cmp unit_cmp u (unit_of a))) ∙ ap (amount_if (eq_by_cmp unit_cmp u (unit_of a))) (is_no_amount n e)

other_units : (u v : Unit) (n : ℕ) → (u ≡ v → ⊥) → amount_if (eq_by_cmp unit_cmp u v) n ≡ 0
other_units u v n other = ap (λ b. amount_if b n) (not_true _ (λ t. other (key_same unit_keys u v t)))

same_units : (u v : Unit) (n : ℕ) → u ≡ v → amount_if (eq_by_cmp unit_cmp u v) n ≡ n
same_units u v n e = ap (λ b. amount_if b n) (subst (λ w. eq_by_cmp unit_cmp u w ≡ true) e (same_key unit_keys u))

count_offered : (u : Unit) (o : Option Asset) (rest : List Asset) → ((a : Asset) → o ≡ Some a → u ≡ unit_of a → occurrences u rest ≡ 0) → occurrences u rest ≤ 1 → occurrences u (offered o rest) ≤ 1
unfolding offered
count_offered u None rest none few = few
count_offered u (Some a) rest none few = by (cases_Bool (is_of u a))
  where
    by : (is_of u a ≡ true) ⊎ (is_of u a ≡ false) → occurrences u (a ∷ rest) ≤ 1
    by (inl t) =
        let count = counted_first u a rest in
        let zeros = none a refl (sym (key_same unit_keys (unit_of a) u t)) in
        let one : cond {A = ℕ} (is_of u a) 1 0 ≡ 1 = ap (λ b. cond {A = ℕ} b 1 0) t in
        omega (arith, count, zeros, one)
    by (inr f) =
        let count = counted_first u a rest in
        let nothing : cond {A = ℕ} (is_of u a) 1 0 ≡ 0 = ap (λ b. cond {A = ℕ} b 1 0) f in
        omega (arith, count, few, nothing)

-- ---- fungible assets, row by row
fungible_in : List Listed → List ℕ → AmountKey × ℕ → Option Asset
fungible_in listed who row = if eq_by_cmp account_cmp who row.0.0 then fungible_held_at (slice_get listed row.0.1) row.1 else None

pub fungibles_in : List Listed → List ℕ → List (AmountKey × ℕ) → List Asset
fungibles_in listed who [] = []
fungibles_in listed who (row ∷ rows) = offered (fungible_in listed who row) (fungibles_in listed who rows)

same_asset : (x y : Asset) → Some x ≡ Some y → x ≡ y
same_asset x y e = cc

module _ (listed : List Listed) (who : List ℕ) where
  fungible_above : (o : Option Listed) (n : ℕ) → IsAbove (fungible_held_at o n)
  unfolding IsAbove
  fungible_above None n = tt
  fungible_above (Some (id, Kind.Fungible)) n = above_if n _ (λ h. h)
  fungible_above (Some (id, Kind.Class)) n = tt

  row_above : (row : AmountKey × ℕ) → IsAbove (fungible_in listed who row)
  unfolding fungible_in IsAbove
  row_above row = elim (eq_by_cmp account_cmp who row.0.0) as (λ b. IsAbove (if b then fungible_held_at (slice_get listed row.0.1) row.1 else None)) [
    | true ↦ fungible_above (slice_get listed row.0.1) row.1
    | false ↦ tt
  ]

  fungibles_no_zero : (rows : List (AmountKey × ℕ)) → has_zero (fungibles_in listed who rows) ≡ false
  unfolding fungibles_in
  fungibles_no_zero [] = refl
  fungibles_no_zero (row ∷ rows) = no_zero_offered _ _ (row_above row) (fungibles_no_zero rows)

  newly_fungible : (u : Unit) (id : AssetId) (n : ℕ) → newly u (fungible_of id Kind.Fungible n) ≡ amount_if (eq_by_cmp unit_cmp u (id, None)) n
  newly_fungible u id n = newly_if u n (record { id = id; fun = Fun.Fungible n }) (λ _. refl)

  no_fungible : (u : Unit) (o : Option Listed) (n : ℕ) → ((id : AssetId) → o ≡ Some (id, Kind.Fungible) → u ≡ (id, None) → ⊥) → newly u (fungible_held_at o n) ≡ 0
  unfolding newly
  no_fungible u None n none = refl
  no_fungible u (Some (id, Kind.Fungible)) n none = newly_fungible u id n ∙ other_units u (id, None) n (none id refl)
  no_fungible u (Some (id, Kind.Class)) n none = refl

  no_row : (u : Unit) (row : AmountKey × ℕ) → (eq_by_cmp account_cmp who row.0.0 ≡ true → (id : AssetId) → slice_get listed row.0.1 ≡ Some (id, Kind.Fungible) → u ≡ (id, None) → ⊥) → newly u (fungible_in listed who row) ≡ 0
  unfolding newly fungible_in
  no_row u row none = elim (cases_Bool (eq_by_cmp account_cmp who row.0.0)) [
    | inl t ↦ ap (λ b. newly u (if b then fungible_held_at (slice_get listed row.0.1) row.1 else None)) t ∙ no_fungible u (slice_get listed row.0.1) row.1 (none t)
    | inr f ↦ ap (λ b. newly u (if b then fungible_held_at (slice_get listed row.0.1) row.1 else None)) f
  ]

  -- a unit of none of the rows
  fungibles_none : (u : Unit) → ((m : ℕ) (id : AssetId) → slice_get listed m ≡ Some (id, Kind.Fungible) → u ≡ (id, None) → ⊥) → (rows : List (AmountKey × ℕ)) → sum_at u (fungibles_in listed who rows) ≡ 0
  unfolding fungibles_in sum_at
  fungibles_none u none [] = refl
  fungibles_none u none (row ∷ rows) =
      let here = no_row u row (λ _ id at. none row.0.1 id at) in
      let rest = fungibles_none u none rows in
      sum_offered u (fungible_in listed who row) (fungibles_in listed who rows) ∙ omega (arith, here, rest)

  -- what the list has for a row is the unit of its asset, of the account
  pub record IsOf (row : AmountKey × ℕ) (a : Asset) : Type 0 where
    pub id : AssetId
    pub at : slice_get listed row.0.1 ≡ Some (id, Kind.Fungible)
    pub unit : unit_of a ≡ (id, None)
    pub account : eq_by_cmp account_cmp who row.0.0 ≡ true

  fungible_unit : (id : AssetId) (n : ℕ) (a : Asset) → fungible_of id Kind.Fungible n ≡ Some a → unit_of a ≡ (id, None)
  fungible_unit id n a = by (nat_lt 0 n)
    where
      by : (b : Bool) → (if b then Some (record { id = id; fun = Fun.Fungible n }) else None) ≡ Some a → unit_of a ≡ (id, None)
      by true e = ap unit_of (sym (same_asset (record { id = id; fun = Fun.Fungible n }) a e))
      by false e = absurd (cc)

  row_is_of : (row : AmountKey × ℕ) (a : Asset) → fungible_in listed who row ≡ Some a → IsOf row a
  unfolding fungible_in
  row_is_of row a = by (eq_by_cmp account_cmp who row.0.0) refl
    where
      of_asset : (o : Option Listed) → slice_get listed row.0.1 ≡ o → eq_by_cmp account_cmp who row.0.0 ≡ true → fungible_held_at o row.1 ≡ Some a → IsOf row a
      of_asset None e t made = absurd (cc)
      of_asset (Some (id, Kind.Fungible)) e t made = record { id = id; at = e; unit = fungible_unit id row.1 a made; account = t }
      of_asset (Some (id, Kind.Class)) e t made = absurd (cc)

      by : (b : Bool) → eq_by_cmp account_cmp who row.0.0 ≡ b → (if b then fungible_held_at (slice_get listed row.0.1) row.1 else None) ≡ Some a → IsOf row a
      by true t made = of_asset (slice_get listed row.0.1) refl t made
      by false f made = absurd (cc)

  module _ (once : IsOnce listed) (n : ℕ) (id : AssetId) (at : slice_get listed n ≡ Some (id, Kind.Fungible)) where
    -- the unit of an asset: what its row says
    fungibles_at : (rows : List (AmountKey × ℕ)) → IsStrictlySortedBy amount_key_cmp (keys_of rows) → sum_at (id, None) (fungibles_in listed who rows) ≡ amount_in_row rows (who, n)
    unfolding fungibles_in fungible_in sum_at IsStrictlySortedBy
    fungibles_at [] sorted = refl
    fungibles_at (row ∷ rows) sorted =
        let further = fungibles_at rows sorted.1 in
        sum_offered (id, None) (fungible_in listed who row) (fungibles_in listed who rows)
        ∙ elim (cases_Bool (eq_by_cmp amount_key_cmp (who, n) row.0)) [
          | inl t ↦ (
              let keys : ◌≡◌ {A = AmountKey} (who, n) row.0 = key_same amount_keys (who, n) row.0 t in
              let here : slice_get listed row.0.1 ≡ Some (id, Kind.Fungible) = subst (λ m. slice_get listed m ≡ Some (id, Kind.Fungible)) (ap (λ (k : AmountKey). k.1) keys) at in
              let account = same_as account_keys who row.0.0 (ap (λ (k : AmountKey). k.0) keys) in
              let first : newly (id, None) (fungible_in listed who row) ≡ row.1 =
              ap (λ b. newly (id, None) (if b then fungible_held_at (slice_get listed row.0.1) row.1 else None)) account
              ∙ ap (λ o. newly (id, None) (fungible_held_at o row.1)) here ∙ newly_fungible (id, None) id row.1 ∙ same_units (id, None) (id, None) row.1 refl in
              let behind : amount_in_row rows (who, n) ≡ 0 = ap (λ o. unwrap_or o 0) (none_behind amount_keys (who, n) row.0 rows sorted.0 t) in
              let found : amount_in_row (row ∷ rows) (who, n) ≡ row.1 = ap (λ b. unwrap_or (if b then Some row.1 else lookup (eq_by_cmp amount_key_cmp (who, n)) rows) 0) t in
              omega (arith, first, further, behind, found))
          | inr f ↦ (
              let first = no_row (id, None) row (λ account other there units.
              let places : n ≡ row.0.1 = once.place n row.0.1 (id, Kind.Fungible) at (there ∙ ap (λ (v : Unit). Some (v.0, Kind.Fungible)) (sym units)) in
              true≢false (sym (same_as amount_keys (who, n) row.0 (λ i. (key_same account_keys who row.0.0 account i, places i))) ∙ f)) in
              let found : amount_in_row (row ∷ rows) (who, n) ≡ amount_in_row rows (who, n) = ap (λ b. unwrap_or (if b then Some row.1 else lookup (eq_by_cmp amount_key_cmp (who, n)) rows) 0) f in
              omega (arith, first, further, found))
        ]

  fungibles_once : IsOnce listed → (u : Unit) (rows : List (AmountKey × ℕ)) → IsStrictlySortedBy amount_key_cmp (keys_of rows) → occurrences u (fungibles_in listed who rows) ≤ 1
  unfolding fungibles_in IsStrictlySortedBy
  fungibles_once once u [] sorted = omega arith
  fungibles_once once u (row ∷ rows) sorted =
      count_offered u (fungible_in listed who row) (fungibles_in listed who rows)
      (λ a made is.
      let of_row = row_is_of row a made in
      let keys : eq_by_cmp amount_key_cmp (who, row.0.1) row.0 ≡ true = same_as amount_keys (who, row.0.1) row.0 (λ i. (key_same account_keys who row.0.0 of_row.account i, row.0.1)) in
      none_counted u (fungibles_in listed who rows) (fungibles_no_zero rows)
      (ap (λ v. sum_at v (fungibles_in listed who rows)) (is ∙ of_row.unit) ∙ fungibles_at once row.0.1 of_row.id of_row.at rows sorted.1 ∙ ap (λ o. unwrap_or o 0) (none_behind amount_keys (who, row.0.1) row.0 rows sorted.0 keys)))
      (fungibles_once once u rows sorted.1)

-- ---- the rows of one account among those of all
pub first_in_range : (who : List ℕ) (k : AmountKey) → eq_by_cmp account_cmp who k.0 ≡ true → range_contains amount_key_cmp (Included (who, 0)) Unbounded k ≡ true
first_in_range who k t = and_from _ _ (ap (λ o. is_le (ordering_then o (nat_cmp 0 k.1))) (equal_told (account_cmp who k.0) t) ∙ least k.1) refl
  where
    least : (n : ℕ) → is_le (nat_cmp 0 n) ≡ true
    least n = grind (arith, nat_tests)

-- rows from the account's first possible one on
pub from_first : (listed : List Listed) (who : List ℕ) (rows : List (AmountKey × ℕ)) → fungibles_in listed who (entries_between amount_key_cmp (Included (who, 0)) Unbounded rows) ≡ fungibles_in listed who rows
unfolding fungibles_in fungible_in offered
from_first listed who [] = refl
from_first listed who (row ∷ rows) = by (range_contains amount_key_cmp (Included (who, 0)) Unbounded row.0) refl (from_first listed who rows)
  where
    left_out : range_contains amount_key_cmp (Included (who, 0)) Unbounded row.0 ≡ false → fungible_in listed who row ≡ None
    left_out out = elim (cases_Bool (eq_by_cmp account_cmp who row.0.0)) [
      | inl t ↦ absurd (true≢false (sym (first_in_range who row.0 t) ∙ out))
      | inr f ↦ ap (λ b. if b then fungible_held_at (slice_get listed row.0.1) row.1 else None) f
    ]

    by : (b : Bool) → range_contains amount_key_cmp (Included (who, 0)) Unbounded row.0 ≡ b → fungibles_in listed who (entries_between amount_key_cmp (Included (who, 0)) Unbounded rows) ≡ fungibles_in listed who rows
        → fungibles_in listed who (cond b (row ∷ entries_between amount_key_cmp (Included (who, 0)) Unbounded rows) (entries_between amount_key_cmp (Included (who, 0)) Unbounded rows)) ≡ fungibles_in listed who (row ∷ rows)
    by true t further = ap (offered (fungible_in listed who row)) further
    by false f further = further ∙ sym (ap (λ o. offered o (fungibles_in listed who rows)) (left_out f))

-- where the next row is of another account, the account has no row that is left
pub none_left : (listed : List Listed) (who : List ℕ) (row : AmountKey × ℕ) (rows : List (AmountKey × ℕ)) → account_cmp who row.0.0 ≡ Less → AllByRecursion (λ q. amount_key_cmp row.0 q ≡ Less) (keys_of rows)
    → fungibles_in listed who (row ∷ rows) ≡ []
unfolding fungibles_in fungible_in offered
none_left listed who row rows less later =
    ap (λ b. offered (if b then fungible_held_at (slice_get listed row.0.1) row.1 else None) (fungibles_in listed who rows)) (ap is_eq less) ∙ further rows later
  where
    further : (es : List (AmountKey × ℕ)) → AllByRecursion (λ q. amount_key_cmp row.0 q ≡ Less) (keys_of es) → fungibles_in listed who es ≡ []
    further [] later = refl
    further (e ∷ es) later =
        ap (λ b. offered (if b then fungible_held_at (slice_get listed e.0.1) e.1 else None) (fungibles_in listed who es))
        (not_true _ (λ t. not_behind row.0 e.0 later.0 (subst (λ w. account_cmp w row.0.0 ≡ Less) (key_same account_keys who e.0.0 t) less)))
        ∙ further es later.1

-- a row that is no earlier than the account's first possible one, and not the account's, is of a later account
pub of_later : (who : List ℕ) (k : AmountKey) → is_gt (amount_key_cmp (who, 0) k) ≡ false → eq_by_cmp account_cmp who k.0 ≡ false → account_cmp who k.0 ≡ Less
of_later who k from other = by (account_cmp who k.0) (first_le (account_cmp who k.0) (nat_cmp 0 k.1) from) other
  where
    by : (o : Ordering) → is_gt o ≡ false → is_eq o ≡ false → o ≡ Less
    by Less h e = refl
    by Equal h e = absurd (true≢false e)
    by Greater h e = absurd (true≢false h)

-- ---- instances, row by row
pub instances_from : List Listed → List ℕ → List (OwnerKey × Option (List ℕ)) → List Asset
instances_from listed who [] = []
instances_from listed who (row ∷ rows) = offered (instance_held_at (slice_get listed row.0.0) row.0.1 (owned who row.1)) (instances_from listed who rows)

module _ (listed : List Listed) (who : List ℕ) where
  owned_most : (o : Option (List ℕ)) → owned who o ≤ 1
  owned_most None = omega arith
  owned_most (Some w) = elim (cases_Bool (eq_by_cmp account_cmp who w)) [
    | inl t ↦ (let one : owned who (Some w) ≡ 1 = ap (λ b. if b then 1 else 0) t in omega (arith, one))
    | inr f ↦ (let none : owned who (Some w) ≡ 0 = ap (λ b. if b then 1 else 0) f in omega (arith, none))
  ]

  instance_above : (o : Option Listed) (i : Instance) (n : ℕ) → IsAbove (instance_held_at o i n)
  unfolding IsAbove
  instance_above None i n = tt
  instance_above (Some (id, Kind.Fungible)) i n = tt
  instance_above (Some (id, Kind.Class)) i n = above_if n _ (λ h. omega arith)

  instances_no_zero : (rows : List (OwnerKey × Option (List ℕ))) → has_zero (instances_from listed who rows) ≡ false
  unfolding instances_from
  instances_no_zero [] = refl
  instances_no_zero (row ∷ rows) = no_zero_offered _ _ (instance_above (slice_get listed row.0.0) row.0.1 _) (instances_no_zero rows)

  one_of : (n : ℕ) → n ≤ 1 → 0 < n → 1 ≡ n
  one_of n few some = omega (arith, few, some)

  newly_class : (u : Unit) (id : AssetId) (i : Instance) (o : Option (List ℕ)) → newly u (owned_instance id Kind.Class i (owned who o)) ≡ amount_if (eq_by_cmp unit_cmp u (id, Some i)) (owned who o)
  newly_class u id i o = newly_if u (owned who o) (record { id = id; fun = Fun.NonFungible i }) (λ some. one_of (owned who o) (owned_most o) some)

  no_instance : (u : Unit) (o : Option Listed) (i : Instance) (owner : Option (List ℕ)) → ((id : AssetId) → o ≡ Some (id, Kind.Class) → u ≡ (id, Some i) → ⊥) → newly u (instance_held_at o i (owned who owner)) ≡ 0
  unfolding newly
  no_instance u None i owner none = refl
  no_instance u (Some (id, Kind.Fungible)) i owner none = refl
  no_instance u (Some (id, Kind.Class)) i owner none = newly_class u id i owner ∙ other_units u (id, Some i) _ (none id refl)

  -- a unit of none of the rows
  instances_none : (u : Unit) → ((m : ℕ) (id : AssetId) (i : Instance) → slice_get listed m ≡ Some (id, Kind.Class) → u ≡ (id, Some i) → ⊥) → (rows : List (OwnerKey × Option (List ℕ))) → sum_at u (instances_from listed who rows) ≡ 0
  unfolding instances_from sum_at
  instances_none u none [] = refl
  instances_none u none (row ∷ rows) =
      let here = no_instance u (slice_get listed row.0.0) row.0.1 row.1 (λ id at. none row.0.0 id row.0.1 at) in
      let rest = instances_none u none rows in
      sum_offered u (instance_held_at (slice_get listed row.0.0) row.0.1 (owned who row.1)) (instances_from listed who rows) ∙ omega (arith, here, rest)

  module _ (once : IsOnce listed) (n : ℕ) (id : AssetId) (i : Instance) (at : slice_get listed n ≡ Some (id, Kind.Class)) where
    -- the unit of an instance: what the row says
    instances_at : (rows : List (OwnerKey × Option (List ℕ))) → IsStrictlySortedBy owner_key_cmp (keys_of rows) → sum_at (id, Some i) (instances_from listed who rows) ≡ owned who (owner_at rows (n, i))
    unfolding instances_from sum_at IsStrictlySortedBy
    instances_at [] sorted = refl
    instances_at (row ∷ rows) sorted =
        let further = instances_at rows sorted.1 in
        sum_offered (id, Some i) (instance_held_at (slice_get listed row.0.0) row.0.1 (owned who row.1)) (instances_from listed who rows)
        ∙ elim (cases_Bool (eq_by_cmp owner_key_cmp (n, i) row.0)) [
          | inl t ↦ (
              let keys : ◌≡◌ {A = OwnerKey} (n, i) row.0 = key_same owner_keys (n, i) row.0 t in
              let here : slice_get listed row.0.0 ≡ Some (id, Kind.Class) = subst (λ m. slice_get listed m ≡ Some (id, Kind.Class)) (ap (λ (k : OwnerKey). k.0) keys) at in
              let first : newly (id, Some i) (instance_held_at (slice_get listed row.0.0) row.0.1 (owned who row.1)) ≡ owned who row.1 =
              ap (λ o. newly (id, Some i) (instance_held_at o row.0.1 (owned who row.1))) here ∙ newly_class (id, Some i) id row.0.1 row.1
              ∙ same_units (id, Some i) (id, Some row.0.1) _ (λ j. (id, Some ((keys j).1))) in
              let behind : owned who (owner_at rows (n, i)) ≡ 0 = ap (λ o. owned who (unwrap_or o None)) (none_behind owner_keys (n, i) row.0 rows sorted.0 t) in
              let found : owned who (owner_at (row ∷ rows) (n, i)) ≡ owned who row.1 = ap (λ b. owned who (unwrap_or (if b then Some row.1 else lookup (eq_by_cmp owner_key_cmp (n, i)) rows) None)) t in
              omega (arith, first, further, behind, found))
          | inr f ↦ (
              let first = no_instance (id, Some i) (slice_get listed row.0.0) row.0.1 row.1 (λ other there units.
              true≢false (sym (same_owner_row listed once who id i n at row.0.0 row.0.1 other there (ap (λ (v : Unit). v.0) units) (same_instance i row.0.1 (ap (λ (v : Unit). v.1) units))) ∙ f)) in
              let found : owned who (owner_at (row ∷ rows) (n, i)) ≡ owned who (owner_at rows (n, i)) = ap (λ b. owned who (unwrap_or (if b then Some row.1 else lookup (eq_by_cmp owner_key_cmp (n, i)) rows) None)) f in
              omega (arith, first, further, found))
        ]
      where
        same_instance : (a b : Instance) → Some a ≡ Some b → a ≡ b
        same_instance a b e = cc

-- ---- what the rows list is what the account holds
module _ (listed : List Listed) (once : IsOnce listed) (amounts : List (AmountKey × ℕ)) (owners : List (OwnerKey × Option (List ℕ))) (sorted : IsStrictlySortedBy owner_key_cmp (keys_of owners)) (who : List ℕ) where
  fungible_sum : IsStrictlySortedBy amount_key_cmp (keys_of amounts) → (id : AssetId) → sum_at (id, None) (fungibles_in listed who amounts) ≡ amount (held_in listed amounts owners) (who, (id, None))
  fungible_sum in_order id = elim (number_in listed (id, Kind.Fungible)) as (λ o. number_in listed (id, Kind.Fungible) ≡ o → sum_at (id, None) (fungibles_in listed who amounts) ≡ amount (held_in listed amounts owners) (who, (id, None))) [
    | None ↦ λ e.
        fungibles_none listed who (id, None) (λ j other at units. no_number listed (id, Kind.Fungible) e j (at ∙ ap (λ (v : Unit). Some (v.0, Kind.Fungible)) (sym units))) amounts
        ∙ sym (held-no_fungible listed once amounts owners who id (no_number listed (id, Kind.Fungible) e))
    | Some n ↦ λ e. (let at = number_at listed (id, Kind.Fungible) n e in
        fungibles_at listed who once n id at amounts in_order ∙ sym (held-fungible listed once amounts owners n who id at))
  ] refl

  instance_sum : (id : AssetId) (i : Instance) → sum_at (id, Some i) (instances_from listed who owners) ≡ amount (held_in listed amounts owners) (who, (id, Some i))
  instance_sum id i = elim (number_in listed (id, Kind.Class)) as (λ o. number_in listed (id, Kind.Class) ≡ o → sum_at (id, Some i) (instances_from listed who owners) ≡ amount (held_in listed amounts owners) (who, (id, Some i))) [
    | None ↦ λ e.
        instances_none listed who (id, Some i) (λ m other j at units. no_number listed (id, Kind.Class) e m (at ∙ ap (λ (v : Unit). Some (v.0, Kind.Class)) (sym units))) owners
        ∙ sym (held-no_instance listed once amounts owners who id i (no_number listed (id, Kind.Class) e))
    | Some n ↦ λ e. (let at = number_at listed (id, Kind.Class) n e in
        instances_at listed who once n id i at owners sorted ∙ sym (held-instance listed once amounts owners sorted n who id i at))
  ] refl

  pub fungibles_listed : IsStrictlySortedBy amount_key_cmp (keys_of amounts) → IsUnsortedListOf (restriction is_amount (account_goods who (held_in listed amounts owners))) (fungibles_in listed who amounts)
  unfolding sum_at
  fungibles_listed in_order = record {
    once = λ u. fungibles_once listed who once u amounts in_order;
    no_zero = fungibles_no_zero listed who amounts;
    whole = same_bundles _ _ (λ u. amount-bundle_of (fungibles_in listed who amounts) u ∙ by u.0 u.1 ∙ sym (amount-restriction unit_keys is_amount (account_goods who (held_in listed amounts owners)) u));
  }
    where
      by : (id : AssetId) (x : Option Instance) → sum_where (eq_by_cmp unit_cmp (id, x)) (rows_of (fungibles_in listed who amounts)) ≡ amount_if (is_amount (id, x)) (amount (account_goods who (held_in listed amounts owners)) (id, x))
      by id None = fungible_sum in_order id ∙ sym (amount-account_goods who (held_in listed amounts owners) (id, None))
      by id (Some i) = fungibles_none listed who (id, Some i) (λ j other at units. (let parts : Some i ≡ None = ap (λ (v : Unit). v.1) units in absurd (cc))) amounts

  pub instances_listed : IsUnsortedListOf (restriction (λ u. not (is_amount u)) (account_goods who (held_in listed amounts owners))) (instances_from listed who owners)
  unfolding sum_at
  instances_listed = record {
    once = λ u. few u.0 u.1;
    no_zero = instances_no_zero listed who owners;
    whole = same_bundles _ _ (λ u. amount-bundle_of (instances_from listed who owners) u ∙ by u.0 u.1 ∙ sym (amount-restriction unit_keys (λ v. not (is_amount v)) (account_goods who (held_in listed amounts owners)) u));
  }
    where
      no_amount : (id : AssetId) → sum_at (id, None) (instances_from listed who owners) ≡ 0
      no_amount id = instances_none listed who (id, None) (λ m other i at units. (let parts : None ≡ Some i = ap (λ (v : Unit). v.1) units in absurd (cc))) owners

      by : (id : AssetId) (x : Option Instance) → sum_where (eq_by_cmp unit_cmp (id, x)) (rows_of (instances_from listed who owners)) ≡ amount_if (not (is_amount (id, x))) (amount (account_goods who (held_in listed amounts owners)) (id, x))
      by id None = no_amount id
      by id (Some i) = instance_sum id i ∙ sym (amount-account_goods who (held_in listed amounts owners) (id, Some i))

      one_at_most : (id : AssetId) (i : Instance) → sum_at (id, Some i) (instances_from listed who owners) ≤ 1
      one_at_most id i = elim (number_in listed (id, Kind.Class)) as (λ o. number_in listed (id, Kind.Class) ≡ o → sum_at (id, Some i) (instances_from listed who owners) ≤ 1) [
        | None ↦ λ e. (let none = instances_none listed who (id, Some i) (λ m other j at units. no_number listed (id, Kind.Class) e m (at ∙ ap (λ (v : Unit). Some (v.0, Kind.Class)) (sym units))) owners in omega (arith, none))
        | Some n ↦ λ e. (let is = instances_at listed who once n id i (number_at listed (id, Kind.Class) n e) owners sorted in let few = owned_most listed who (owner_at owners (n, i)) in omega (arith, is, few))
      ] refl

      few : (id : AssetId) (x : Option Instance) → occurrences (id, x) (instances_from listed who owners) ≤ 1
      few id None = (let none = none_counted (id, None) (instances_from listed who owners) (instances_no_zero listed who owners) (no_amount id) in omega (arith, none))
      few id (Some i) = (let within = count_within (id, Some i) (instances_from listed who owners) (instances_no_zero listed who owners) in let most = one_at_most id i in omega (arith, within, most))

-- ---- two lists, of what passes a test and of what doesn't
rows-append : (xs ys : List Asset) → rows_of (xs ++ ys) ≡ rows_of xs ++ rows_of ys
rows-append [] ys = refl
rows-append (a ∷ xs) ys = ap (λ rs. (unit_of a, amount_of a) ∷ rs) (rows-append xs ys)

no_zero-append : (xs ys : List Asset) → has_zero xs ≡ false → has_zero ys ≡ false → has_zero (xs ++ ys) ≡ false
no_zero-append [] ys none more = more
no_zero-append (a ∷ xs) ys none more = (let parts = none_zero a xs none in ap (λ b. b || has_zero (xs ++ ys)) (above_zero (amount_of a) parts.0) ∙ no_zero-append xs ys parts.1 more)

module _ (test : Unit → Bool) (goods : Bundle) (xs ys : List Asset) (passed : IsUnsortedListOf (restriction test goods) xs) (others : IsUnsortedListOf (restriction (λ u. not (test u)) goods) ys) where
  pub both_listed : IsUnsortedListOf goods (xs ++ ys)
  unfolding bundle_of
  both_listed = record {
    once = λ u. by u (cases_Bool (test u));
    no_zero = no_zero-append xs ys passed.no_zero others.no_zero;
    whole = ap (λ rs. from_rows rs) (rows-append xs ys) ∙ from_rows-append unit_keys (rows_of xs) (rows_of ys) ∙ (λ i. merge (passed.whole i) (others.whole i)) ∙ merge-restriction unit_keys test goods;
  }
    where
      by : (u : Unit) → (test u ≡ true) ⊎ (test u ≡ false) → occurrences u (xs ++ ys) ≤ 1
      by u (inl t) =
          let count = sum_by-append (λ b. cond {A = ℕ} (is_of u b) 1 0) xs ys in
          let few = passed.once u in
          let none = none_counted u ys others.no_zero (listed_sum _ ys u others ∙ amount-restriction unit_keys (λ v. not (test v)) goods u ∙ ap (λ b. amount_if (not b) (amount goods u)) t) in
          omega (arith, count, few, none)
      by u (inr f) =
          let count = sum_by-append (λ b. cond {A = ℕ} (is_of u b) 1 0) xs ys in
          let few = others.once u in
          let none = none_counted u xs passed.no_zero (listed_sum _ xs u passed ∙ amount-restriction unit_keys test goods u ∙ ap (λ b. amount_if b (amount goods u)) f) in
          omega (arith, count, few, none)

-- one more in the list, where there is one
pub listed_more : (xs : List Asset) (a : Asset) (rest all : List Asset) (next : List Asset) (o : Option Asset) → o ≡ Some a → rest ≡ offered o next → xs ++ rest ≡ all → (xs ++ a ∷ []) ++ next ≡ all
unfolding offered
listed_more xs a rest all next o is cut so = append_assoc xs (a ∷ []) next ∙ ap (λ ys. xs ++ ys) (ap (λ p. offered p next) (sym is) ∙ sym cut) ∙ so

pub listed_none : (xs rest all next : List Asset) (o : Option Asset) → o ≡ None → rest ≡ offered o next → xs ++ rest ≡ all → xs ++ next ≡ all
unfolding offered
listed_none xs rest all next o is cut so = ap (λ ys. xs ++ ys) (ap (λ p. offered p next) (sym is) ∙ sym cut) ∙ so

pub instances_next : (listed : List Listed) (who : List ℕ) (row : OwnerKey × Option (List ℕ)) (rows : List (OwnerKey × Option (List ℕ)))
    → instances_from listed who (row ∷ rows) ≡ offered (instance_held_at (slice_get listed row.0.0) row.0.1 (owned who row.1)) (instances_from listed who rows)
unfolding instances_from
instances_next listed who row rows = refl

pub all_listed : (xs : List Asset) → xs ++ [] ≡ xs
all_listed [] = refl
all_listed (a ∷ xs) = ap (λ ys. a ∷ ys) (all_listed xs)

pub fungibles_next : (listed : List Listed) (who : List ℕ) (row : AmountKey × ℕ) (rows : List (AmountKey × ℕ)) → eq_by_cmp account_cmp who row.0.0 ≡ true
    → fungibles_in listed who (row ∷ rows) ≡ offered (fungible_held_at (slice_get listed row.0.1) row.1) (fungibles_in listed who rows)
unfolding fungibles_in fungible_in
fungibles_next listed who row rows t = ap (λ b. offered (if b then fungible_held_at (slice_get listed row.0.1) row.1 else None) (fungibles_in listed who rows)) t

pub no_fungibles : (listed : List Listed) (who : List ℕ) → fungibles_in listed who [] ≡ []
unfolding fungibles_in
no_fungibles listed who = refl

pub no_instances : (listed : List Listed) (who : List ℕ) → instances_from listed who [] ≡ []
unfolding instances_from
no_instances listed who = refl
