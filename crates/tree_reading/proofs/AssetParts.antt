-- The parts of assets and wildcards.
use Rattle.std.proofs.Common.{◌≡◌, ℕ, List, [], ◌∷◌, ◌++◌, refl}
use Rattle.asset_lists.specs.declared.units.AssetId.{AssetId}
use Rattle.asset_lists.specs.declared.units.AssetId.TheVariants.{Concrete, Abstract}
use Rattle.asset_lists.specs.declared.filters.WildFun.{WildFun}
use Rattle.asset_lists.specs.declared.filters.WildFun.TheVariants as kinds
use Rattle.location_wire.specs.Spelling.{location, FitsLocation}
use Rattle.location_wire.specs.Texts.{location_text}
use Rattle.asset_wire.specs.Spelling.{asset_id}
use Rattle.operands.specs.declared.version.Version.{Version}
use Rattle.operands.specs.declared.version.Version.TheVariants.{V3, V4}
use Rattle.message_text.specs.Words.{id_text, wild_fun_text}
use Rattle.tree_reading.specs.Rows.{IsSolid}
use Rattle.tree_reading.specs.Puts.{AreBytes}
use Rattle.tree_reading.specs.Assets.{FitsPlaceId}
use Rattle.tree_reading.proofs.Behind.{IsEnd}
use Rattle.tree_reading.proofs.SolidPaths.{solid_place}

pub solid_id : (v : Version) (id : AssetId) → FitsPlaceId v id → AreBytes (asset_id v id) → IsSolid (id_text id)
unfolding id_text
solid_id V3 (Concrete place) fits bytes = solid_place place fits.1 bytes.1
solid_id V4 (Concrete place) fits bytes = solid_place place fits.1 bytes
solid_id V3 (Abstract b) fits bytes = absurd (cc fits.0)
solid_id V4 (Abstract b) fits bytes = absurd (cc fits.0)

pub id_in_3 : (v : Version) (text old mid : List ℕ) → v ≡ V3 → mid ≡ old ++ 0 ∷ [] → (id : AssetId) → FitsPlaceId v id → AreBytes (asset_id v id) → text ≡ id_text id
    → IsEnd FitsLocation location_text location (asset_id v) id text old mid
unfolding id_text
id_in_3 V3 text old mid is put (Concrete place) fits bytes e = record { value = place; fits = fits.1; bytes = bytes.1; words = e; front = 0 ∷ []; put = put; spelled = refl }
id_in_3 V3 text old mid is put (Abstract b) fits bytes e = absurd (cc fits.0)
id_in_3 V4 text old mid is put id fits bytes e = absurd (cc is)

pub id_in_4 : (v : Version) (text old mid : List ℕ) → v ≡ V4 → mid ≡ old ++ [] → (id : AssetId) → FitsPlaceId v id → AreBytes (asset_id v id) → text ≡ id_text id
    → IsEnd FitsLocation location_text location (asset_id v) id text old mid
unfolding id_text
id_in_4 V4 text old mid is put (Concrete place) fits bytes e = record { value = place; fits = fits.1; bytes = bytes; words = e; front = []; put = put; spelled = refl }
id_in_4 V4 text old mid is put (Abstract b) fits bytes e = absurd (cc fits.0)
id_in_4 V3 text old mid is put id fits bytes e = absurd (cc is)

pub solid_kind : (kind : WildFun) → IsSolid (wild_fun_text kind)
unfolding wild_fun_text
solid_kind kinds.Fungible = refl
solid_kind kinds.NonFungible = refl
