-- A bundle as another chain names its units. Source: the XCM format's reanchoring of asset ids.
use Rattle.std.specs.Prelude.{◌≡◌, ◌<◌, List, [], ◌∷◌, unwrap_or}
use Rattle.amounts.specs.Amounts.{amount, map_keys}
use Rattle.locations.specs.declared.grammar.Junction.{Junction}
use Rattle.locations.specs.declared.relative.Location.{Location}
use Rattle.asset_lists.specs.declared.units.AssetId.{AssetId}
use Rattle.asset_lists.specs.declared.units.Asset.{Asset}
use Rattle.asset_lists.specs.Units.{Unit}
use Rattle.asset_lists.specs.Moves.{reanchored_id}
use Rattle.asset_bundles.specs.Bundles.{Bundle}

-- the id that the target gives it; the same id where the target can't name it
abbrev pub new_id : Location → List Junction → AssetId → AssetId
new_id target context id = unwrap_or (reanchored_id target context id) id

-- the same unit under its new id
abbrev pub renamed : Location → List Junction → Unit → Unit
renamed target context unit = (new_id target context unit.0, unit.1)

unfoldable pub Renamed : Location → List Junction → Bundle → Bundle
Renamed target context b = map_keys (renamed target context) b

-- no two units of the bundle become the same
abbrev pub StayApart : Location → List Junction → Bundle → Type 0
StayApart target context b = (u v : Unit) → 0 < amount b u → 0 < amount b v → renamed target context u ≡ renamed target context v → u ≡ v

-- the same amount or instance under its new id
abbrev pub renamed_asset : Location → List Junction → Asset → Asset
renamed_asset target context a = record { id = new_id target context a.id; fun = a.fun }

abbrev pub renamed_assets : Location → List Junction → List Asset → List Asset
renamed_assets target context [] = []
renamed_assets target context (a ∷ xs) = renamed_asset target context a ∷ renamed_assets target context xs
