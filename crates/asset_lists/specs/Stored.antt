-- An id as a table keeps it.
use Rattle.std.specs.Prelude.{ℕ, List, Option, Some, None}
use Rattle.locations.specs.declared.relative.Location.{Location}
use Rattle.asset_lists.specs.declared.units.AssetId.{AssetId}
use Rattle.asset_lists.specs.declared.units.AssetId.TheVariants.{Concrete, Abstract}

-- the id of a place where there is one, else that of the bytes
abbrev pub id_of : Option Location → List ℕ → AssetId
id_of (Some place) bytes = Concrete place
id_of None bytes = Abstract bytes
