-- A list of assets as rows of an account, and what of it may be taken or given asset by asset.
use Rattle.std.specs.Prelude.{◌≡◌, ℕ, List, [], ◌∷◌, slice_get, Some, ⊤}
use Rattle.amounts.specs.Rows.{rows_at}
use Rattle.amounts.specs.Amounts.{IsWithin, from_rows}
use Rattle.asset_lists.specs.declared.units.Asset.{Asset}
use Rattle.asset_lists.specs.Units.{Unit}
use Rattle.asset_bundles.specs.Bundles.{rows_of}
use Rattle.ledgers.specs.declared.rows.Rows.{Rows}
use Rattle.ledgers.specs.Ledgers.{Holder, Held}
use Rattle.ledgers.specs.RowState.{HasDepositRows, MayTake}

abbrev pub account_rows : List ℕ → List Asset → List (Holder × ℕ)
account_rows who assets = rows_at (λ (unit : Unit). (who, unit)) (rows_of assets)

-- the account has all of them
abbrev pub HasAll : Held → List ℕ → List Asset → Type 0
HasAll held who assets = IsWithin (from_rows (account_rows who assets)) held

-- the account may take each of them
abbrev pub MayTakeAll : Held → List ℕ → List Asset → Type 0
MayTakeAll held who [] = ⊤
MayTakeAll held who (a ∷ rest) = MayTake held who a × MayTakeAll held who rest

-- the rows that a deposit of them writes are there
abbrev pub HasAllRoom : Rows → List ℕ → List Asset → Type 0
HasAllRoom rows who assets = (k : ℕ) (a : Asset) → slice_get assets k ≡ Some a → HasDepositRows rows who a
