-- An id that is there to be filled by a reader.
use Rattle.std.specs.Prelude.{◌≡◌, []}
use Rattle.asset_lists.specs.declared.units.AssetId.{AssetId}
use Rattle.asset_lists.specs.declared.units.AssetId.TheVariants.{Concrete, Abstract}

-- a location with no junctions
abbrev pub IsBlank : AssetId → Type 0
IsBlank (Concrete place) = place.interior ≡ []
IsBlank (Abstract bytes) = ⊥
