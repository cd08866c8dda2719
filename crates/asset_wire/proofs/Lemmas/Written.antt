-- A value that has a spelling in a version can be written in it.
use Rattle.std.proofs.Common.{◌≡◌, false, eqb, List, [], ◌∷◌, refl}
use Rattle.std.proofs.lemmas.Bool.{ne_eqb}
use Rattle.std.specs.List.{AllByRecursion}
use Rattle.asset_lists.specs.declared.units.AssetId.{AssetId}
use Rattle.asset_lists.specs.declared.units.AssetId.TheVariants.{Concrete, Abstract}
use Rattle.asset_lists.specs.declared.units.Fun.{Fun}
use Rattle.asset_lists.specs.declared.units.Fun.TheVariants.{Fungible, NonFungible}
use Rattle.asset_lists.specs.declared.units.Asset.{Asset}
use Rattle.asset_lists.specs.declared.filters.Wild.{Wild}
use Rattle.asset_lists.specs.declared.filters.Wild.TheVariants.{All, AllOf, AllCounted, AllOfCounted}
use Rattle.asset_lists.specs.declared.filters.Filter.{Filter}
use Rattle.asset_lists.specs.declared.filters.Filter.TheVariants as filters
use Rattle.asset_lists.specs.Units.{amount_in}
use Rattle.operands.specs.declared.version.Version.{Version}
use Rattle.operands.specs.declared.version.Version.TheVariants.{V3, V4}
use Rattle.asset_wire.specs.Spelling.{FitsId, FitsFun, FitsAsset, FitsAssets, FitsWild, FitsFilter, IsNamed, IsWritableAsset, AreNamed, IsWildNamed, IsFilterNamed}

pub id_named : (v : Version) (id : AssetId) → FitsId v id → IsNamed v id
id_named V3 (Concrete place) fits = tt
id_named V3 (Abstract bytes) fits = tt
id_named V4 (Concrete place) fits = tt
id_named V4 (Abstract bytes) fits = fits

is_some : (f : Fun) → FitsFun f → eqb (amount_in f) 0 ≡ false
is_some (Fungible amount) fits = ne_eqb amount 0 fits.1
is_some (NonFungible which) fits = refl

pub asset_writable : (v : Version) (a : Asset) → FitsAsset v a → IsWritableAsset v a
asset_writable v a fits = (id_named v a.id fits.0, is_some a.fun fits.1)

each_named : (v : Version) (list : List Asset) → AllByRecursion (FitsAsset v) list → AreNamed v list
each_named v [] fits = tt
each_named v (a ∷ rest) fits = (id_named v a.id fits.0.0, each_named v rest fits.1)

pub assets_named : (v : Version) (list : List Asset) → FitsAssets v list → AreNamed v list
assets_named v list fits = each_named v list fits.1

wild_named : (v : Version) (w : Wild) → FitsWild v w → IsWildNamed v w
wild_named v All fits = tt
wild_named v (AllOf id kind) fits = id_named v id fits
wild_named v (AllCounted count) fits = tt
wild_named v (AllOfCounted id kind count) fits = id_named v id fits.0

pub filter_named : (v : Version) (f : Filter) → FitsFilter v f → IsFilterNamed v f
filter_named v (filters.Definite list) fits = assets_named v list fits
filter_named v (filters.Wild which) fits = wild_named v which fits
