-- Fees as they are settled. This project's own.
use Rattle.std.specs.Prelude.{ℕ, Bool, nat_lt, if◌then◌else◌, List, [], ◌∷◌}
use Rattle.std.specs.List.{list_all}
use Rattle.asset_lists.specs.declared.units.AssetId.{AssetId}
use Rattle.asset_lists.specs.declared.units.Fun.{Fun}
use Rattle.asset_lists.specs.declared.units.Asset.{Asset}
use Rattle.asset_lists.specs.Units.{Unit}
use Rattle.asset_lists.specs.Listed.{Listed, listed_of, lists}
use Rattle.asset_bundles.specs.Bundles.{fun_of}

-- each unit is of a listed asset
abbrev pub are_units_listed : List Listed → List (Unit × ℕ) → Bool
are_units_listed listed units = list_all (λ (r : Unit × ℕ). lists listed (listed_of r.0)) units

-- so much of a unit, as an asset
abbrev pub asset_of_amount : Unit × ℕ → Asset
asset_of_amount r = record { id = r.0.0; fun = fun_of r.0.1 r.1 }

-- so much of a fungible asset, if it isn't 0
abbrev pub some_coins : AssetId → ℕ → List Asset
some_coins id n = if nat_lt 0 n then (record { id = id; fun = Fun.Fungible n }) ∷ [] else []
