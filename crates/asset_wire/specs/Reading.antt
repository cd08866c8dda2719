-- Reading the parts of an asset from left to right: a list of forms for each enum, in the order of the index.
use Rattle.std.specs.Prelude.{ℕ, ◌^◌, List, [], ◌∷◌, not, nat_eq, nat_le}
use Rattle.scale_codec.specs.Reading.{Reader, below_at, take_at, pure_reader, made1, made2, made3, guarded_at, indexed_at, counted_at}
use Rattle.location_wire.specs.Reading.{location_at}
use Rattle.asset_lists.specs.declared.units.AssetId.{AssetId}
use Rattle.asset_lists.specs.declared.units.AssetId.TheVariants.{Concrete, Abstract}
use Rattle.asset_lists.specs.declared.units.Instance.{Instance}
use Rattle.asset_lists.specs.declared.units.Instance.TheVariants.{Undefined, Index, Array4, Array8, Array16, Array32}
use Rattle.asset_lists.specs.declared.units.Fun.{Fun}
use Rattle.asset_lists.specs.declared.units.Fun.TheVariants.{Fungible, NonFungible}
use Rattle.asset_lists.specs.declared.units.Asset.{Asset}
use Rattle.asset_lists.specs.declared.filters.WildFun.{WildFun}
use Rattle.asset_lists.specs.declared.filters.WildFun.TheVariants as kinds
use Rattle.asset_lists.specs.declared.filters.Wild.{Wild}
use Rattle.asset_lists.specs.declared.filters.Wild.TheVariants.{All, AllOf, AllCounted, AllOfCounted}
use Rattle.asset_lists.specs.declared.filters.Filter.{Filter}
use Rattle.asset_lists.specs.declared.filters.Filter.TheVariants as filters
use Rattle.asset_lists.specs.Lists.{is_asset_list}
use Rattle.operands.specs.declared.version.Version.{Version}
use Rattle.operands.specs.declared.version.Version.TheVariants.{V3, V4}

abbrev pub asset_id_forms : List (Reader AssetId)
asset_id_forms = made1 location_at Concrete ∷ made1 (take_at 32) Abstract ∷ []

unfoldable pub asset_id_at : Version → Reader AssetId
asset_id_at V3 = indexed_at asset_id_forms
asset_id_at V4 = made1 location_at Concrete

abbrev pub instance_forms : List (Reader Instance)
instance_forms = pure_reader Undefined
    ∷ made1 (below_at (2 ^ 128)) Index
    ∷ made1 (take_at 4) Array4
    ∷ made1 (take_at 8) Array8
    ∷ made1 (take_at 16) Array16
    ∷ made1 (take_at 32) Array32
    ∷ []

unfoldable pub instance_at : Reader Instance
instance_at = indexed_at instance_forms

-- not 0
abbrev pub positive_amount_at : Reader ℕ
positive_amount_at = guarded_at (λ n. not (nat_eq n 0)) (below_at (2 ^ 128))

abbrev pub fun_forms : List (Reader Fun)
fun_forms = made1 positive_amount_at Fungible ∷ made1 instance_at NonFungible ∷ []

unfoldable pub fun_at : Reader Fun
fun_at = indexed_at fun_forms

unfoldable pub asset_at : Version → Reader Asset
asset_at v = made2 (asset_id_at v) fun_at (λ id fun. record { id = id; fun = fun })

-- at most 20
abbrev pub asset_count_at : Reader ℕ
asset_count_at = guarded_at (λ n. nat_le n 20) (below_at (2 ^ 32))

unfoldable pub assets_at : Version → Reader (List Asset)
assets_at v = guarded_at is_asset_list (counted_at asset_count_at (asset_at v))

abbrev pub wild_fun_forms : List (Reader WildFun)
wild_fun_forms = pure_reader kinds.Fungible ∷ pure_reader kinds.NonFungible ∷ []

unfoldable pub wild_fun_at : Reader WildFun
wild_fun_at = indexed_at wild_fun_forms

abbrev pub wild_forms : Version → List (Reader Wild)
wild_forms v = pure_reader All
    ∷ made2 (asset_id_at v) wild_fun_at AllOf
    ∷ made1 (below_at (2 ^ 32)) AllCounted
    ∷ made3 (asset_id_at v) wild_fun_at (below_at (2 ^ 32)) AllOfCounted
    ∷ []

unfoldable pub wild_at : Version → Reader Wild
wild_at v = indexed_at (wild_forms v)

abbrev pub filter_forms : Version → List (Reader Filter)
filter_forms v = made1 (assets_at v) filters.Definite ∷ made1 (wild_at v) filters.Wild ∷ []

unfoldable pub filter_at : Version → Reader Filter
filter_at v = indexed_at (filter_forms v)
