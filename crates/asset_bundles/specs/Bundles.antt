-- What a bundle holds: a finite map from units to amounts above 0. A unit is an asset id, and for one of a
-- class the instance, whose amount is 1. This is the project's own vocabulary, in the terms of the holding
-- register of xcm-executor's documentation.
use Rattle.std.specs.Prelude.{◌≡◌, ℕ, Bool, true, false, ◌&&◌, List, [], ◌∷◌, Option, Some, None, unwrap_or}
use Rattle.std.specs.Ordering.{eq_by_cmp}
use Rattle.std.specs.FinMap.{find}
use Rattle.std.specs.List.Sorted.{IsStrictlySortedBy}
use Rattle.std.specs.Map.{keys_of}
use Rattle.amounts.specs.Rows.{IsPositive}
use Rattle.amounts.specs.Amounts.{Amounts, rows, from_rows}
use Rattle.asset_lists.specs.declared.units.AssetId.{AssetId}
use Rattle.asset_lists.specs.declared.units.Instance.{Instance}
use Rattle.asset_lists.specs.declared.units.Kind.{Kind}
use Rattle.asset_lists.specs.declared.units.Fun.{Fun}
use Rattle.asset_lists.specs.declared.units.Asset.{Asset}
use Rattle.asset_lists.specs.Units.{Unit, unit_of, amount_of, unit_cmp, asset_id_cmp}

abbrev pub Bundle : Type 0
Bundle = Amounts unit_cmp

-- each asset as its unit and its amount
abbrev pub rows_of : List Asset → List (Unit × ℕ)
rows_of [] = []
rows_of (a ∷ xs) = (unit_of a, amount_of a) ∷ rows_of xs

-- the amounts of a list of assets, added up
unfoldable pub bundle_of : List Asset → Bundle
bundle_of xs = from_rows (rows_of xs)

abbrev pub fun_of : Option Instance → ℕ → Fun
fun_of None amount = Fun.Fungible amount
fun_of (Some instance) amount = Fun.NonFungible instance

abbrev pub assets_of_rows : List (Unit × ℕ) → List Asset
assets_of_rows [] = []
assets_of_rows (r ∷ rs) = record { id = r.0.0; fun = fun_of r.0.1 r.1 } ∷ assets_of_rows rs

-- all assets of a bundle in holding order: fungibles by id, then instances by id and instance
unfoldable pub held_assets : Bundle → List Asset
held_assets b = assets_of_rows (rows b)

-- in holding order, no unit twice, and no amount of 0
pub record IsHolding (xs : List Asset) : Type 0 where
  pub rising : IsStrictlySortedBy unit_cmp (keys_of (rows_of xs))
  pub positive : IsPositive (rows_of xs)

-- a bundle that is the one of the list of its assets: no instance counts twice
abbrev pub IsGoods : Bundle → Type 0
IsGoods b = bundle_of (held_assets b) ≡ b

-- what the first asset of a unit has, or 0
abbrev pub found : Unit → List Asset → ℕ
found unit xs = unwrap_or (find unit_cmp unit (rows_of xs)) 0

-- the fungible asset of an id, or an instance of that class
abbrev pub is_kind : Kind → Option Instance → Bool
is_kind Kind.Fungible None = true
is_kind Kind.Fungible (Some instance) = false
is_kind Kind.Class None = false
is_kind Kind.Class (Some instance) = true

abbrev pub is_asset : AssetId → Kind → Unit → Bool
is_asset id kind unit = eq_by_cmp asset_id_cmp id unit.0 && is_kind kind unit.1
