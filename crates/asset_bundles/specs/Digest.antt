-- The digest of an origin and a list of assets: SipHash-1-3 of what they say, numbers and bytes. It is this project's own rule, and
-- nothing rests on which digest it is: traps with one digest are told apart by comparing them.
use Rattle.std.specs.Prelude.{ℕ, List, [], ◌∷◌, ◌++◌, fold}
use Rattle.std.specs.List.{flat_map}
use Rattle.std.specs.Hash as fed
use Rattle.std.specs.Hash.{HashWrites}
use Rattle.std.specs.Hash.DefaultHasher as sip
use Rattle.locations.specs.declared.relative.Location.{Location}
use Rattle.locations.specs.Hashing.{location_input}
use Rattle.asset_lists.specs.declared.units.AssetId.{AssetId}
use Rattle.asset_lists.specs.declared.units.AssetId.TheVariants.{Concrete, Abstract}
use Rattle.asset_lists.specs.declared.units.Instance.{Instance}
use Rattle.asset_lists.specs.declared.units.Instance.TheVariants.{Undefined, Index, Array4, Array8, Array16, Array32}
use Rattle.asset_lists.specs.declared.units.Fun.{Fun}
use Rattle.asset_lists.specs.declared.units.Fun.TheVariants.{Fungible, NonFungible}
use Rattle.asset_lists.specs.declared.units.Asset.{Asset}
use Rattle.asset_bundles.specs.Bundles.{held_assets}
use Rattle.asset_bundles.specs.declared.trap.Trap.{Trap}

abbrev pub id_writes : AssetId → HashWrites
id_writes (Concrete place) = location_input place
id_writes (Abstract bytes) = bytes ∷ []

abbrev pub instance_writes : Instance → HashWrites
instance_writes Undefined = []
instance_writes (Index index) = fed.u128 index
instance_writes (Array4 bytes) = bytes ∷ []
instance_writes (Array8 bytes) = bytes ∷ []
instance_writes (Array16 bytes) = bytes ∷ []
instance_writes (Array32 bytes) = bytes ∷ []

abbrev pub fun_writes : Fun → HashWrites
fun_writes (Fungible amount) = fed.u128 amount
fun_writes (NonFungible instance) = instance_writes instance

abbrev pub asset_writes : Asset → HashWrites
asset_writes a = id_writes a.id ++ fun_writes a.fun

-- the digest of an origin and a list
unfoldable pub digest : Location → List Asset → ℕ
digest origin list = sip.finish (fold sip.write sip.initial (location_input origin ++ flat_map asset_writes list))

-- that of what a trap has
abbrev pub digest_of : Trap → ℕ
digest_of t = digest t.origin (held_assets t.goods)
