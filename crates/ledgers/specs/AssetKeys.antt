-- Equal assets are hashed alike.
use Rattle.std.specs.Prelude.{◌≡◌, true}
use Rattle.std.specs.Ordering.{eq_by_cmp}
use Rattle.std.proofs.Common.{ap}
use Rattle.locations.specs.declared.relative.Location.{Location}
use Rattle.asset_lists.specs.declared.units.AssetId.{AssetId}
use Rattle.asset_lists.specs.declared.units.AssetId.TheVariants.{Concrete, Abstract}
use Rattle.asset_lists.specs.Listed.{Listed}
use Rattle.asset_bundles.proofs.Lemmas.{listed_keys}
use Rattle.amounts.proofs.Lemmas.{key_same}
use Rattle.ledgers.specs.declared.listed_asset.ListedAsset.{ListedAsset}
use Rattle.ledgers.specs.AssetTable.{listed_key_of, row_cmp}
use Rattle.locations.specs.Hashing.{location_input}

concrete_place : AssetId → Location → Location
concrete_place (Concrete place) other = place
concrete_place (Abstract bytes) other = other

pub same_places : (x y : ListedAsset) → eq_by_cmp row_cmp x y ≡ true → x.id ≡ y.id
unfolding concrete_place
same_places x y h = ap (λ (k : Listed). concrete_place k.0 x.id) (key_same listed_keys (listed_key_of x) (listed_key_of y) h)

pub hashed_alike : (x y : ListedAsset) → eq_by_cmp row_cmp x y ≡ true → location_input x.id ≡ location_input y.id
hashed_alike x y h = ap location_input (same_places x y h)
