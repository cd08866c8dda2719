-- The rows of a ledger as the code keeps them.
use Rattle.std.specs.Prelude.{◌≡◌, ℕ, ◌+◌, ◌-◌, ◌^◌, ◌≤◌, List, Some}
use Rattle.amounts.specs.Amounts.{amount}
use Rattle.asset_lists.specs.declared.units.Fun.{Fun}
use Rattle.asset_lists.specs.declared.units.Asset.{Asset}
use Rattle.asset_lists.specs.Units.{Unit, unit_of, instance_in}
use Rattle.asset_lists.specs.Listed.{listed_of}
use Rattle.ledgers.specs.declared.rows.Rows.{Rows}
use Rattle.ledgers.specs.Ledgers.{Held, Accounts, number_in}
use Rattle.ledgers.specs.LedgerRows.{AmountKey, OwnerKey, held_in, IsSound, HasAmountRow, HasOwnerRow, HasInstanceRow}

abbrev pub rows_held : Rows → Held
rows_held r = held_in r.assets r.amounts.entries r.owners.entries

abbrev pub accounts_in : Rows → Accounts
accounts_in r = record { listed = r.assets; held = rows_held r }

abbrev pub AreSound : Rows → Type 0
AreSound r = IsSound r.assets r.amounts.entries r.owners.entries r.sums.items

-- the rows that a deposit of the asset writes are there
abbrev pub HasDepositRows : Rows → List ℕ → Asset → Type 0
HasDepositRows r who a = (n : ℕ) → number_in r.assets (listed_of (unit_of a)) ≡ Some n → HasAmountRow r.amounts.entries (who, n) × HasInstanceRow r.owners.entries n (instance_in a.fun)

-- rows that are there stay
pub record KeepsRows (old new : Rows) : Type 0 where
  pub assets : new.assets ≡ old.assets
  pub amounts : (q : AmountKey) → HasAmountRow old.amounts.entries q → HasAmountRow new.amounts.entries q
  pub owners : (q : OwnerKey) → HasOwnerRow old.owners.entries q → HasOwnerRow new.owners.entries q

-- the account may take the asset in: the sum doesn't pass 2^128-1, and the instance has no owner
abbrev pub may_take : Fun → List ℕ → Unit → Held → Type 0
may_take (Fun.Fungible n) who unit held = amount held (who, unit) + n ≤ 2 ^ 128 - 1
may_take (Fun.NonFungible instance) who unit held = (w : List ℕ) → amount held (w, unit) ≡ 0

abbrev pub MayTake : Held → List ℕ → Asset → Type 0
MayTake held who a = may_take a.fun who (unit_of a) held
