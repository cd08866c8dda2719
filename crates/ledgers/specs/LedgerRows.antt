-- The rows that a ledger keeps, as what its accounts hold. Amounts are kept by account and asset number, and owners
-- by class number and instance. For a class the amount is how many instances the account has: it is kept beside
-- the owners, which say the same.
use Rattle.std.specs.Prelude.{◌≡◌, ℕ, ◌-◌, ◌^◌, ◌<◌, ◌≤◌, if◌then◌else◌, List, [], ◌∷◌, length, slice_get, slice_set, Option, None, Some, unwrap_or, IsSome, ⊤}
use Rattle.std.specs.Ordering.{nat_cmp, on, then_cmp, eq_by_cmp}
use Rattle.std.specs.declared.cmp.Ordering.{Ordering}
use Rattle.std.specs.declared.cmp.Ordering.TheVariants.{Less}
use Rattle.std.specs.List.{AllByRecursion}
use Rattle.std.specs.List.Sorted.{IsStrictlySortedBy}
use Rattle.std.specs.Map.{lookup, keys_of}
use Rattle.amounts.specs.Entries.{from_entries}
use Rattle.asset_lists.specs.DerivedOrder.{derived_instance_cmp}
use Rattle.asset_lists.specs.declared.units.AssetId.{AssetId}
use Rattle.asset_lists.specs.declared.units.Instance.{Instance}
use Rattle.asset_lists.specs.declared.units.Kind.{Kind}
use Rattle.asset_lists.specs.Listed.{Listed}
use Rattle.asset_bundles.specs.declared.wide_sum.WideSum.{WideSum}
use Rattle.asset_bundles.specs.Totals.{wide_value}
use Rattle.ledgers.specs.Ledgers.{Holder, account_cmp, Held, sum_of, account_sum_of, IsAfter}

-- an account and an asset's number
abbrev pub AmountKey : Type 0
AmountKey = List ℕ × ℕ

abbrev pub amount_key_cmp : AmountKey → AmountKey → Ordering
amount_key_cmp = then_cmp (on (λ (k : AmountKey). k.0) account_cmp) (on (λ (k : AmountKey). k.1) nat_cmp)

-- a class's number and an instance
abbrev pub OwnerKey : Type 0
OwnerKey = ℕ × Instance

abbrev pub owner_key_cmp : OwnerKey → OwnerKey → Ordering
owner_key_cmp = then_cmp (on (λ (k : OwnerKey). k.0) nat_cmp) (on (λ (k : OwnerKey). k.1) derived_instance_cmp)

-- the amount in the row of a key, 0 where there is no row
abbrev pub amount_in_row : List (AmountKey × ℕ) → AmountKey → ℕ
amount_in_row rows k = unwrap_or (lookup (eq_by_cmp amount_key_cmp k) rows) 0

-- the owner in the row of a key
abbrev pub owner_at : List (OwnerKey × Option (List ℕ)) → OwnerKey → Option (List ℕ)
owner_at rows k = unwrap_or (lookup (eq_by_cmp owner_key_cmp k) rows) None

-- what the row of an instance says of an account
abbrev pub owned : List ℕ → Option (List ℕ) → ℕ
owned who None = 0
owned who (Some owner) = if eq_by_cmp account_cmp who owner then 1 else 0

-- the row of an instance says now this; a fungible asset has no such row
abbrev pub OwnerIs : Option Instance → ℕ → Option (List ℕ) → List (OwnerKey × Option (List ℕ)) → List (OwnerKey × Option (List ℕ)) → Type 0
OwnerIs None n owner old new = (q : OwnerKey) → owner_at new q ≡ owner_at old q
OwnerIs (Some i) n owner old new = (q : OwnerKey) → owner_at new q ≡ (if eq_by_cmp owner_key_cmp (n, i) q then owner else owner_at old q)

-- ---- what the rows hold
-- the row of a fungible asset, in front of others
abbrev pub fungible_row : AssetId → Kind → List ℕ → ℕ → List (Holder × ℕ) → List (Holder × ℕ)
fungible_row id Kind.Fungible who amount rest = ((who, (id, None)), amount) ∷ rest
fungible_row id Kind.Class who amount rest = rest

abbrev pub amount_row : Option Listed → List ℕ → ℕ → List (Holder × ℕ) → List (Holder × ℕ)
amount_row None who amount rest = rest
amount_row (Some asset) who amount rest = fungible_row asset.0 asset.1 who amount rest

abbrev pub amount_rows : List Listed → List (AmountKey × ℕ) → List (Holder × ℕ) → List (Holder × ℕ)
amount_rows listed [] rest = rest
amount_rows listed (row ∷ rows) rest = amount_row (slice_get listed row.0.1) row.0.0 row.1 (amount_rows listed rows rest)

-- the row of an instance that has an owner, in front of others
abbrev pub instance_row : AssetId → Kind → Instance → Option (List ℕ) → List (Holder × ℕ) → List (Holder × ℕ)
instance_row id Kind.Fungible instance owner rest = rest
instance_row id Kind.Class instance None rest = rest
instance_row id Kind.Class instance (Some who) rest = ((who, (id, Some instance)), 1) ∷ rest

abbrev pub owner_row : Option Listed → Instance → Option (List ℕ) → List (Holder × ℕ) → List (Holder × ℕ)
owner_row None instance owner rest = rest
owner_row (Some asset) instance owner rest = instance_row asset.0 asset.1 instance owner rest

abbrev pub owner_rows : List Listed → List (OwnerKey × Option (List ℕ)) → List (Holder × ℕ)
owner_rows listed [] = []
owner_rows listed (row ∷ rows) = owner_row (slice_get listed row.0.0) row.0.1 row.1 (owner_rows listed rows)

unfoldable pub held_in : List Listed → List (AmountKey × ℕ) → List (OwnerKey × Option (List ℕ)) → Held
held_in listed amounts owners = from_entries (amount_rows listed amounts (owner_rows listed owners))

-- ---- what of the rows is always so
-- no asset is listed twice
pub record IsOnce (listed : List Listed) : Type 0 where
  pub place : (i j : ℕ) (k : Listed) → slice_get listed i ≡ Some k → slice_get listed j ≡ Some k → i ≡ j

abbrev pub AreSmall : List (AmountKey × ℕ) → Type 0
AreSmall rows = AllByRecursion (λ (row : AmountKey × ℕ). row.1 ≤ 2 ^ 128 - 1) rows

-- there is a row, whatever it says
abbrev pub HasAmountRow : List (AmountKey × ℕ) → AmountKey → Type 0
HasAmountRow rows k = IsSome (lookup (eq_by_cmp amount_key_cmp k) rows)

abbrev pub HasOwnerRow : List (OwnerKey × Option (List ℕ)) → OwnerKey → Type 0
HasOwnerRow rows k = IsSome (lookup (eq_by_cmp owner_key_cmp k) rows)

abbrev pub HasInstanceRow : List (OwnerKey × Option (List ℕ)) → ℕ → Option Instance → Type 0
HasInstanceRow rows n None = ⊤
HasInstanceRow rows n (Some i) = HasOwnerRow rows (n, i)

-- a running sum is another one
pub record IsSumWritten (n : ℕ) (old new : List WideSum) (s t : WideSum) : Type 0 where
  pub was : slice_get old n ≡ Some s
  pub written : new ≡ slice_set old n t

-- counts and running sums are those of what is held, and only listed assets have amounts
pub record IsSound (listed : List Listed) (amounts : List (AmountKey × ℕ)) (owners : List (OwnerKey × Option (List ℕ))) (sums : List WideSum) : Type 0 where
  pub once : IsOnce listed
  pub small : AreSmall amounts
  pub sorted : IsStrictlySortedBy owner_key_cmp (keys_of owners)
  pub counted : (n : ℕ) (who : List ℕ) (id : AssetId) → slice_get listed n ≡ Some (id, Kind.Class) → amount_in_row amounts (who, n) ≡ account_sum_of who (id, Kind.Class) (held_in listed amounts owners)
  pub numbered : (n : ℕ) (who : List ℕ) → 0 < amount_in_row amounts (who, n) → IsSome (slice_get listed n)
  pub as_many : length sums ≡ length listed
  pub summed : (n : ℕ) (asset : Listed) (s : WideSum) → slice_get listed n ≡ Some asset → slice_get sums n ≡ Some s → wide_value s ≡ sum_of asset (held_in listed amounts owners)

-- ---- accounts in order
-- the first account after another of which a row says more than 0
pub record IsNextRow (after : Option (List ℕ)) (rows : List (AmountKey × ℕ)) (who : List ℕ) : Type 0 where
  pub number : ℕ
  pub has : 0 < amount_in_row rows (who, number)
  pub later : IsAfter after who
  pub least : (k : AmountKey) → IsAfter after k.0 → account_cmp k.0 who ≡ Less → amount_in_row rows k ≡ 0
