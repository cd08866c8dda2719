-- One law for each type: its reader takes what is spelled, and nothing else.
-- ---- ids
use Rattle.std.proofs.Common.{◌≡◌, ◌≢◌, ℕ, ◌<◌, ◌≤◌, ◌^◌, true, not, eqb, List, ◌++◌, length, Some, refl, subst, arith}
use Rattle.std.proofs.lemmas.Bool.{eqb-false, ne_eqb, not-true, not_from_false}
use Rattle.std.specs.List.{AllByRecursion}
use Rattle.scale_codec.specs.Spelling.{compact}
use Rattle.scale_codec.specs.Reading.{Reads, below_at, indexed_at, counted_at, made1}
use Rattle.scale_codec.proofs.Lemmas.NumberLaws.{bytes_reads}
use Rattle.scale_codec.proofs.Lemmas.Compact.{c32, c128}
use Rattle.scale_codec.proofs.Lemmas.Schemes.{◌&◌, AllFormed, reads_fits, guarded_reads, at_most_reads, indexed_reads, made1_takes, made1_again, made2_again, made2_reads, made3_again, formed0, formed1, formed2, formed3, counted_reads}
use Rattle.location_wire.specs.Spelling.{location}
use Rattle.location_wire.specs.Reading.{location_at}
use Rattle.location_wire.proofs.Lemmas.FieldLaws.{location_reads}
use Rattle.asset_lists.specs.declared.units.AssetId.{AssetId}
use Rattle.asset_lists.specs.declared.units.AssetId.TheVariants.{Concrete, Abstract}
use Rattle.asset_lists.specs.declared.units.Instance.{Instance}
use Rattle.asset_lists.specs.declared.units.Instance.TheVariants.{Undefined, Index, Array4, Array8, Array16, Array32}
use Rattle.asset_lists.specs.declared.units.Fun.{Fun}
use Rattle.asset_lists.specs.declared.units.Fun.TheVariants.{Fungible, NonFungible}
use Rattle.asset_lists.specs.declared.filters.WildFun.{WildFun}
use Rattle.asset_lists.specs.declared.filters.WildFun.TheVariants as kinds
use Rattle.asset_lists.specs.declared.filters.Wild.{Wild}
use Rattle.asset_lists.specs.declared.filters.Wild.TheVariants.{All, AllOf, AllCounted, AllOfCounted}
use Rattle.asset_lists.specs.declared.filters.Filter.{Filter}
use Rattle.asset_lists.specs.declared.filters.Filter.TheVariants as filters
use Rattle.asset_lists.specs.Lists.{IsAssetList, is_asset_list}
use Rattle.asset_lists.proofs.Lemmas.{tests_lists}
use Rattle.operands.specs.declared.version.Version.{Version}
use Rattle.operands.specs.declared.version.Version.TheVariants.{V3, V4}
use Rattle.asset_wire.specs.Spelling.{asset_id, FitsId, instance, FitsInstance, fun, FitsAmount, FitsFun, asset, FitsAsset, assets, FitsAssets, wild_fun, wild, FitsWild, filter, FitsFilter}
use Rattle.asset_wire.specs.Reading.{asset_id_forms, asset_id_at, instance_forms, instance_at, positive_amount_at, fun_forms, fun_at, asset_at, asset_count_at, assets_at, wild_fun_forms, wild_fun_at, wild_forms, wild_at, filter_forms, filter_at}

asset_id_formed : AllFormed (asset_id V3) (FitsId V3) 0 asset_id_forms
asset_id_formed =
    formed1 (asset_id V3) (FitsId V3) location _ _ location_reads Concrete 0 (λ _. refl) (λ _ h. h)
    & formed1 (asset_id V3) (FitsId V3) (λ x. x) _ _ (bytes_reads 32) Abstract 1 (λ _. refl) (λ _ h. h)
    & tt

asset_id_again : (id : AssetId) (rest : List ℕ) → FitsId V3 id → indexed_at asset_id_forms (asset_id V3 id ++ rest) ≡ Some (id, rest)
asset_id_again (Concrete place) rest fits = made1_again location _ _ location_reads Concrete place rest fits
asset_id_again (Abstract bytes) rest fits = made1_again (λ x. x) _ _ (bytes_reads 32) Abstract bytes rest fits

place_takes : (bytes : List ℕ) (id : AssetId) (rest : List ℕ) → made1 location_at Concrete bytes ≡ Some (id, rest) → (bytes ≡ asset_id V4 id ++ rest) × FitsId V4 id
place_takes bytes id rest e =
    let s = made1_takes location _ _ location_reads Concrete bytes id rest e in
    subst (λ (i : AssetId). (bytes ≡ asset_id V4 i ++ rest) × FitsId V4 i) s.1 (s.2, s.3)

place_again : (id : AssetId) (rest : List ℕ) → FitsId V4 id → made1 location_at Concrete (asset_id V4 id ++ rest) ≡ Some (id, rest)
place_again (Concrete place) rest fits = made1_again location _ _ location_reads Concrete place rest fits
place_again (Abstract bytes) rest fits = absurd fits

pub asset_id_reads : (v : Version) → Reads (asset_id v) (FitsId v) (asset_id_at v)
unfolding asset_id_at
asset_id_reads V3 = indexed_reads (asset_id V3) (FitsId V3) asset_id_forms asset_id_formed asset_id_again
asset_id_reads V4 = record { takes = place_takes; again = place_again }

-- ---- amounts and instances

instance_formed : AllFormed instance FitsInstance 0 instance_forms
instance_formed =
    formed0 instance FitsInstance 0 Undefined refl tt
    & formed1 instance FitsInstance compact _ _ c128 Index 1 (λ _. refl) (λ _ h. h)
    & formed1 instance FitsInstance (λ x. x) _ _ (bytes_reads 4) Array4 2 (λ _. refl) (λ _ h. h)
    & formed1 instance FitsInstance (λ x. x) _ _ (bytes_reads 8) Array8 3 (λ _. refl) (λ _ h. h)
    & formed1 instance FitsInstance (λ x. x) _ _ (bytes_reads 16) Array16 4 (λ _. refl) (λ _ h. h)
    & formed1 instance FitsInstance (λ x. x) _ _ (bytes_reads 32) Array32 5 (λ _. refl) (λ _ h. h)
    & tt

instance_again : (i : Instance) (rest : List ℕ) → FitsInstance i → indexed_at instance_forms (instance i ++ rest) ≡ Some (i, rest)
instance_again Undefined rest fits = refl
instance_again (Index index) rest fits = made1_again compact _ _ c128 Index index rest fits
instance_again (Array4 bytes) rest fits = made1_again (λ x. x) _ _ (bytes_reads 4) Array4 bytes rest fits
instance_again (Array8 bytes) rest fits = made1_again (λ x. x) _ _ (bytes_reads 8) Array8 bytes rest fits
instance_again (Array16 bytes) rest fits = made1_again (λ x. x) _ _ (bytes_reads 16) Array16 bytes rest fits
instance_again (Array32 bytes) rest fits = made1_again (λ x. x) _ _ (bytes_reads 32) Array32 bytes rest fits

pub instance_reads : Reads instance FitsInstance instance_at
unfolding instance_at
instance_reads = indexed_reads instance FitsInstance instance_forms instance_formed instance_again

-- a number is not 0 just where the test says so
some_sound : (n : ℕ) → not (eqb n 0) ≡ true → n ≢ 0
some_sound n h = eqb-false n 0 (not-true (eqb n 0) h)

some_complete : (n : ℕ) → n ≢ 0 → not (eqb n 0) ≡ true
some_complete n h = not_from_false (eqb n 0) (ne_eqb n 0 h)

amount_reads : Reads compact FitsAmount positive_amount_at
amount_reads = guarded_reads compact (λ n. n < 2 ^ 128) (λ n. n ≢ 0) (λ n. not (eqb n 0)) (below_at (2 ^ 128)) some_sound some_complete c128

fun_formed : AllFormed fun FitsFun 0 fun_forms
fun_formed =
    formed1 fun FitsFun compact _ _ amount_reads Fungible 0 (λ _. refl) (λ _ h. h)
    & formed1 fun FitsFun instance _ _ instance_reads NonFungible 1 (λ _. refl) (λ _ h. h)
    & tt

fun_again : (f : Fun) (rest : List ℕ) → FitsFun f → indexed_at fun_forms (fun f ++ rest) ≡ Some (f, rest)
fun_again (Fungible amount) rest fits = made1_again compact _ _ amount_reads Fungible amount rest fits
fun_again (NonFungible which) rest fits = made1_again instance _ _ instance_reads NonFungible which rest fits

fun_reads : Reads fun FitsFun fun_at
unfolding fun_at
fun_reads = indexed_reads fun FitsFun fun_forms fun_formed fun_again

-- ---- assets, and lists of them

pub asset_reads : (v : Version) → Reads (asset v) (FitsAsset v) (asset_at v)
unfolding asset asset_at
asset_reads v = made2_reads (asset_id v) _ _ (asset_id_reads v) fun _ _ fun_reads (λ i f. record { id = i; fun = f }) (λ a. (a.id, a.fun)) (λ _. refl) (λ _. refl)

count_reads : Reads compact (λ n. n ≤ 20) asset_count_at
count_reads = at_most_reads compact _ (below_at (2 ^ 32)) c32 20 (λ n h. omega arith)

pub assets_reads : (v : Version) → Reads (assets v) (FitsAssets v) (assets_at v)
unfolding assets_at
assets_reads v =
    reads_fits (assets v) (λ xs. ((length xs ≤ 20) × AllByRecursion (FitsAsset v) xs) × IsAssetList xs) (FitsAssets v) (assets_at v) (λ _ h. (h.1, h.0.1)) (λ _ h. ((h.0.few, h.1), h.0))
    (guarded_reads (assets v) (λ xs. (length xs ≤ 20) × AllByRecursion (FitsAsset v) xs) IsAssetList is_asset_list (counted_at asset_count_at (asset_at v)) (λ xs. (tests_lists xs).0) (λ xs. (tests_lists xs).1)
    (counted_reads compact (λ n. n ≤ 20) asset_count_at count_reads (asset v) (FitsAsset v) (asset_at v) (asset_reads v)))

-- ---- filters

wild_fun_formed : AllFormed wild_fun (λ _. Unit {0}) 0 wild_fun_forms
wild_fun_formed = formed0 wild_fun (λ _. Unit {0}) 0 kinds.Fungible refl tt & formed0 wild_fun (λ _. Unit {0}) 1 kinds.NonFungible refl tt & tt

wild_fun_again : (k : WildFun) (rest : List ℕ) → Unit {0} → indexed_at wild_fun_forms (wild_fun k ++ rest) ≡ Some (k, rest)
wild_fun_again kinds.Fungible rest fits = refl
wild_fun_again kinds.NonFungible rest fits = refl

wild_fun_reads : Reads wild_fun (λ _. Unit {0}) wild_fun_at
unfolding wild_fun_at
wild_fun_reads = indexed_reads wild_fun (λ _. Unit {0}) wild_fun_forms wild_fun_formed wild_fun_again

wild_formed : (v : Version) → AllFormed (wild v) (FitsWild v) 0 (wild_forms v)
wild_formed v =
    formed0 (wild v) (FitsWild v) 0 All refl tt
    & formed2 (wild v) (FitsWild v) (asset_id v) _ _ (asset_id_reads v) wild_fun _ _ wild_fun_reads AllOf 1 (λ _ _. refl) (λ _ _ h _. h)
    & formed1 (wild v) (FitsWild v) compact _ _ c32 AllCounted 2 (λ _. refl) (λ _ h. h)
    & formed3 (wild v) (FitsWild v) (asset_id v) _ _ (asset_id_reads v) wild_fun _ _ wild_fun_reads compact _ _ c32 AllOfCounted 3 (λ _ _ _. refl) (λ _ _ _ h _ k. (h, k))
    & tt

wild_again : (v : Version) (w : Wild) (rest : List ℕ) → FitsWild v w → indexed_at (wild_forms v) (wild v w ++ rest) ≡ Some (w, rest)
wild_again v All rest fits = refl
wild_again v (AllOf id kind) rest fits = made2_again (asset_id v) _ _ (asset_id_reads v) wild_fun _ _ wild_fun_reads AllOf id kind rest fits tt
wild_again v (AllCounted count) rest fits = made1_again compact _ _ c32 AllCounted count rest fits
wild_again v (AllOfCounted id kind count) rest fits = made3_again (asset_id v) _ _ (asset_id_reads v) wild_fun _ _ wild_fun_reads compact _ _ c32 AllOfCounted id kind count rest fits.0 tt fits.1

wild_reads : (v : Version) → Reads (wild v) (FitsWild v) (wild_at v)
unfolding wild_at
wild_reads v = indexed_reads (wild v) (FitsWild v) (wild_forms v) (wild_formed v) (wild_again v)

filter_formed : (v : Version) → AllFormed (filter v) (FitsFilter v) 0 (filter_forms v)
filter_formed v =
    formed1 (filter v) (FitsFilter v) (assets v) _ _ (assets_reads v) filters.Definite 0 (λ _. refl) (λ _ h. h)
    & formed1 (filter v) (FitsFilter v) (wild v) _ _ (wild_reads v) filters.Wild 1 (λ _. refl) (λ _ h. h)
    & tt

filter_again : (v : Version) (f : Filter) (rest : List ℕ) → FitsFilter v f → indexed_at (filter_forms v) (filter v f ++ rest) ≡ Some (f, rest)
filter_again v (filters.Definite list) rest fits = made1_again (assets v) _ _ (assets_reads v) filters.Definite list rest fits
filter_again v (filters.Wild which) rest fits = made1_again (wild v) _ _ (wild_reads v) filters.Wild which rest fits

pub filter_reads : (v : Version) → Reads (filter v) (FitsFilter v) (filter_at v)
unfolding filter_at
filter_reads v = indexed_reads (filter v) (FitsFilter v) (filter_forms v) (filter_formed v) (filter_again v)
