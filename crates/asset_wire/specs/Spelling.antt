-- The one spelling of each part of an asset, in both versions, and which values have one. Source: the XCM format, versions 3 and 4,
-- in the SCALE codec: an enum is its index and then its fields in order. That the versions spell asset ids alone in two ways is this
-- project's own profile of them.
use Rattle.std.specs.Prelude.{◌≡◌, ◌≢◌, ℕ, ◌<◌, ◌^◌, List, [], ◌∷◌, ◌++◌, length, IsFalse, ⊤}
use Rattle.std.specs.List.{AllByRecursion}
use Rattle.scale_codec.specs.Spelling.{compact, counted}
use Rattle.location_wire.specs.Spelling.{location, FitsLocation}
use Rattle.asset_lists.specs.declared.units.AssetId.{AssetId}
use Rattle.asset_lists.specs.declared.units.AssetId.TheVariants.{Concrete, Abstract}
use Rattle.asset_lists.specs.declared.units.Instance.{Instance}
use Rattle.asset_lists.specs.declared.units.Instance.TheVariants.{Undefined, Index, Array4, Array8, Array16, Array32}
use Rattle.asset_lists.specs.declared.units.Fun.{Fun}
use Rattle.asset_lists.specs.declared.units.Fun.TheVariants.{Fungible, NonFungible}
use Rattle.asset_lists.specs.declared.units.Asset.{Asset}
use Rattle.asset_lists.specs.declared.filters.WildFun.{WildFun}
use Rattle.asset_lists.specs.declared.filters.WildFun.TheVariants as kinds
use Rattle.asset_lists.specs.declared.filters.Wild.{Wild}
use Rattle.asset_lists.specs.declared.filters.Wild.TheVariants.{All, AllOf, AllCounted, AllOfCounted}
use Rattle.asset_lists.specs.declared.filters.Filter.{Filter}
use Rattle.asset_lists.specs.declared.filters.Filter.TheVariants as filters
use Rattle.asset_lists.specs.Units.{is_zero}
use Rattle.asset_lists.specs.Lists.{IsAssetList}
use Rattle.operands.specs.declared.version.Version.{Version}
use Rattle.operands.specs.declared.version.Version.TheVariants.{V3, V4}

-- ---- ids

-- In version 4 an id is a location. Bytes that name no location have no spelling there, as FitsId says.
abbrev pub asset_id : Version → AssetId → List ℕ
asset_id V3 (Concrete place) = 0 ∷ location place
asset_id V3 (Abstract bytes) = 1 ∷ bytes
asset_id V4 (Concrete place) = location place
asset_id V4 (Abstract bytes) = []

abbrev pub FitsId : Version → AssetId → Type 0
FitsId V3 (Concrete place) = FitsLocation place
FitsId V3 (Abstract bytes) = length bytes ≡ 32
FitsId V4 (Concrete place) = FitsLocation place
FitsId V4 (Abstract bytes) = ⊥

-- ---- amounts and instances

abbrev pub instance : Instance → List ℕ
instance Undefined = 0 ∷ []
instance (Index index) = 1 ∷ compact index
instance (Array4 bytes) = 2 ∷ bytes
instance (Array8 bytes) = 3 ∷ bytes
instance (Array16 bytes) = 4 ∷ bytes
instance (Array32 bytes) = 5 ∷ bytes

abbrev pub FitsInstance : Instance → Type 0
FitsInstance Undefined = ⊤
FitsInstance (Index index) = index < 2 ^ 128
FitsInstance (Array4 bytes) = length bytes ≡ 4
FitsInstance (Array8 bytes) = length bytes ≡ 8
FitsInstance (Array16 bytes) = length bytes ≡ 16
FitsInstance (Array32 bytes) = length bytes ≡ 32

abbrev pub fun : Fun → List ℕ
fun (Fungible amount) = 0 ∷ compact amount
fun (NonFungible which) = 1 ∷ instance which

-- an amount of 0 has no spelling
abbrev pub FitsAmount : ℕ → Type 0
FitsAmount amount = (amount < 2 ^ 128) × (amount ≢ 0)

abbrev pub FitsFun : Fun → Type 0
FitsFun (Fungible amount) = FitsAmount amount
FitsFun (NonFungible which) = FitsInstance which

-- ---- assets, and lists of them

unfoldable pub asset : Version → Asset → List ℕ
asset v a = asset_id v a.id ++ fun a.fun

abbrev pub FitsAsset : Version → Asset → Type 0
FitsAsset v a = FitsId v a.id × FitsFun a.fun

-- how many, and these
abbrev pub assets : Version → List Asset → List ℕ
assets v = counted compact (asset v)

-- in order, at most 20, and no amount of 0
abbrev pub FitsAssets : Version → List Asset → Type 0
FitsAssets v list = IsAssetList list × AllByRecursion (FitsAsset v) list

-- ---- filters

abbrev pub wild_fun : WildFun → List ℕ
wild_fun kinds.Fungible = 0 ∷ []
wild_fun kinds.NonFungible = 1 ∷ []

abbrev pub wild : Version → Wild → List ℕ
wild v All = 0 ∷ []
wild v (AllOf id kind) = 1 ∷ (asset_id v id ++ wild_fun kind)
wild v (AllCounted count) = 2 ∷ compact count
wild v (AllOfCounted id kind count) = 3 ∷ (asset_id v id ++ wild_fun kind ++ compact count)

abbrev pub FitsWild : Version → Wild → Type 0
FitsWild v All = ⊤
FitsWild v (AllOf id kind) = FitsId v id
FitsWild v (AllCounted count) = count < 2 ^ 32
FitsWild v (AllOfCounted id kind count) = FitsId v id × (count < 2 ^ 32)

abbrev pub filter : Version → Filter → List ℕ
filter v (filters.Definite list) = 0 ∷ assets v list
filter v (filters.Wild which) = 1 ∷ wild v which

abbrev pub FitsFilter : Version → Filter → Type 0
FitsFilter v (filters.Definite list) = FitsAssets v list
FitsFilter v (filters.Wild which) = FitsWild v which

-- ---- what no type keeps of a value that has a spelling

-- an id that the version can say
abbrev pub IsNamed : Version → AssetId → Type 0
IsNamed V3 id = ⊤
IsNamed V4 (Concrete place) = ⊤
IsNamed V4 (Abstract bytes) = ⊥

abbrev pub IsWritableAsset : Version → Asset → Type 0
IsWritableAsset v a = IsNamed v a.id × IsFalse (is_zero a)

abbrev pub AreNamed : Version → List Asset → Type 0
AreNamed v = AllByRecursion (λ a. IsNamed v a.id)

abbrev pub IsWildNamed : Version → Wild → Type 0
IsWildNamed v All = ⊤
IsWildNamed v (AllOf id kind) = IsNamed v id
IsWildNamed v (AllCounted count) = ⊤
IsWildNamed v (AllOfCounted id kind count) = IsNamed v id

abbrev pub IsFilterNamed : Version → Filter → Type 0
IsFilterNamed v (filters.Definite list) = AreNamed v list
IsFilterNamed v (filters.Wild which) = IsWildNamed v which
