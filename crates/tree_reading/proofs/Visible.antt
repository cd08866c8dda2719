-- What a row says is plain.
use Rattle.std.proofs.Common.{◌≡◌, ℕ, ◌<◌, ◌^◌, Bool, true, false, List, [], ◌∷◌, ◌++◌, length, Option, Some, None, refl, sym, subst, lit<, arith}
use Rattle.std.specs.Prelude.{codes, decimal, IfSome}
use Rattle.std.specs.List.{list_all}
use Rattle.std.proofs.lemmas.Bool.{and_parts, and_from}
use Rattle.std.proofs.lemmas.Bool.Decides.{nat_tests}
use Rattle.scale_codec.specs.Spelling.{compact, optional}
use Rattle.locations.specs.declared.grammar.NetworkId.{NetworkId}
use Rattle.locations.specs.declared.grammar.Junction.{Junction}
use Rattle.locations.specs.declared.grammar.Junction.TheVariants.{GlobalConsensus}
use Rattle.locations.specs.declared.relative.Location.{Location}
use Rattle.location_wire.specs.Spelling.{network, FitsNetwork, junction, FitsJunction, junctions, FitsJunctions, location, FitsLocation}
use Rattle.location_wire.specs.Texts.{hex_text, path_text, location_text}
use Rattle.asset_lists.specs.declared.units.AssetId.{AssetId}
use Rattle.asset_lists.specs.declared.units.Fun.{Fun}
use Rattle.asset_lists.specs.declared.units.Fun.TheVariants as funs
use Rattle.asset_lists.specs.declared.units.Asset.{Asset}
use Rattle.asset_lists.specs.declared.filters.WildFun.{WildFun}
use Rattle.asset_lists.specs.declared.filters.Wild.{Wild}
use Rattle.asset_lists.specs.declared.filters.Wild.TheVariants.{All, AllOf, AllCounted, AllOfCounted}
use Rattle.asset_wire.specs.Spelling.{asset_id, instance, fun, FitsFun, asset, wild_fun, wild}
use Rattle.operands.specs.Texts.{weight_text, error_text}
use Rattle.operands.specs.declared.weight.Weight.{Weight}
use Rattle.operands.specs.declared.weight.WeightLimit.{WeightLimit}
use Rattle.operands.specs.declared.weight.WeightLimit.TheVariants.{Unlimited, Limited}
use Rattle.operands.specs.declared.origin.OriginKind.{OriginKind}
use Rattle.operands.specs.declared.origin.OriginKind.TheVariants as origins
use Rattle.operands.specs.declared.error.XcmError.{XcmError}
use Rattle.operands.specs.declared.error.XcmError.TheVariants as errors
use Rattle.operands.specs.declared.status.MaybeError.{MaybeError}
use Rattle.operands.specs.declared.status.MaybeError.TheVariants as statuses
use Rattle.operands.specs.declared.pallet.PalletInfo.{PalletInfo}
use Rattle.operands.specs.declared.query.Response.{Response}
use Rattle.operands.specs.declared.query.Response.TheVariants as responses
use Rattle.operands.specs.declared.version.Version.{Version}
use Rattle.xcm_format.specs.Parts.{FitsWeight, FitsLimit, FitsFailure, FitsError, bytes, maybe_error, FitsMaybeError, pallet_info, FitsPallet, response}
use Rattle.message_text.specs.Words.{flag_text, origin_kind_text, limit_text, status_text, place_text, failure_text, junction_path_text, network_text, id_text, fun_text, asset_text, wild_fun_text}
use Rattle.message_text.specs.Fields.{wild_text, pallet_text, response_name, response_value}
use Rattle.tree_reading.specs.declared.kinds.Words.{Words}
use Rattle.tree_reading.specs.declared.kinds.Words.TheVariants as kinds
use Rattle.tree_reading.specs.Rows.{is_visible, is_solid, IsSolid}
use Rattle.tree_reading.specs.Puts.{AreBytes}
use Rattle.tree_reading.specs.Assets.{FitsPlaceId, FitsPlaceAsset, FitsPlaceWild}
use Rattle.tree_reading.specs.Responses.{FitsValued, valued_text}
use Rattle.tree_reading.specs.Kinds.{SaysOne, Says}
use Rattle.tree_reading.proofs.Bytes.{bytes_front, bytes_back}
use Rattle.tree_reading.proofs.Solid.{all-append, solid_decimal}
use Rattle.tree_reading.proofs.Paths.{is_place, one_fits, one_bytes}
use Rattle.tree_reading.proofs.SolidPaths.{solid_hex, solid_path, solid_place}
use Rattle.tree_reading.proofs.AssetParts.{solid_id, solid_kind}

abbrev pub IsPlain : List ℕ → Type 0
IsPlain text = list_all is_visible text ≡ true

solid_byte : (b : ℕ) → is_solid b ≡ true → is_visible b ≡ true
solid_byte b h = grind (arith, nat_tests, h)

pub plain_solid : (text : List ℕ) → IsSolid text → IsPlain text
plain_solid [] h = refl
plain_solid (b ∷ text) h = let a = and_parts (is_solid b) (list_all is_solid text) h in and_from (is_visible b) (list_all is_visible text) (solid_byte b a.0) (plain_solid text a.1)

pub plain_both : (one other : List ℕ) → IsPlain one → IsPlain other → IsPlain (one ++ other)
plain_both one other h k = all-append is_visible one other h k

plain_number : (n : ℕ) → n < 10 ^ 64 → IsPlain (decimal n)
plain_number n lt = plain_solid (decimal n) (solid_decimal n lt)

plain_hex : (b : List ℕ) → AreBytes b → IsPlain (hex_text b)
plain_hex b h = plain_solid (hex_text b) (solid_hex b h)

-- a space, and a text behind it
spaced : (text : List ℕ) → IsPlain text → IsPlain (32 ∷ text)
spaced text h = h

-- ---- places

plain_location : (l : Location) → FitsLocation l → AreBytes (location l) → IsPlain (location_text l)
plain_location l fits all = plain_solid (location_text l) (solid_place l fits all)

plain_path : (path : List Junction) → FitsJunctions path → AreBytes (junctions path) → IsPlain (path_text path)
plain_path path fits all = plain_solid (path_text path) (solid_path path (is_place path fits all).2)

plain_junction : (j : Junction) → FitsJunction j → AreBytes (junction j) → IsPlain (junction_path_text j)
plain_junction j fits all = plain_path (j ∷ []) (one_fits j fits) (one_bytes j all)

plain_network : (net : NetworkId) → FitsNetwork net → AreBytes (network net) → IsPlain (network_text net)
unfolding junction
plain_network net fits all = plain_junction (GlobalConsensus net) fits (lit< tt, all)

plain_place : (o : Option Location) → IfSome o FitsLocation → AreBytes (optional location o) → IsPlain (place_text o)
unfolding place_text
plain_place None fits all = refl
plain_place (Some l) fits all = plain_location l fits all.1

-- ---- assets

plain_id : (v : Version) (id : AssetId) → FitsPlaceId v id → AreBytes (asset_id v id) → IsPlain (id_text id)
plain_id v id fits all = plain_solid (id_text id) (solid_id v id fits all)

plain_fun : (f : Fun) → FitsFun f → AreBytes (fun f) → IsPlain (fun_text f)
unfolding fun_text
plain_fun (funs.Fungible amount) fits all = plain_number amount (omega (arith, fits.0))
plain_fun (funs.NonFungible which) fits all = plain_both (codes "instance ") (hex_text (instance which)) refl (plain_hex (instance which) all.1)

plain_asset : (v : Version) (a : Asset) → FitsPlaceAsset v a → AreBytes (asset v a) → IsPlain (asset_text a)
unfolding asset
plain_asset v a fits all =
    plain_both (id_text a.id ++ codes " ") (fun_text a.fun)
    (plain_both (id_text a.id) (codes " ") (plain_id v a.id (fits.0, fits.1.0) (bytes_front (asset_id v a.id) (fun a.fun) all)) refl)
    (plain_fun a.fun fits.1.1 (bytes_back (asset_id v a.id) (fun a.fun) all))

plain_kind : (kind : WildFun) → IsPlain (wild_fun_text kind)
plain_kind kind = plain_solid (wild_fun_text kind) (solid_kind kind)

plain_wild : (v : Version) (which : Wild) → FitsPlaceWild v which → AreBytes (wild v which) → IsPlain (wild_text which)
unfolding wild_text
plain_wild v All fits all = refl
plain_wild v (AllOf id kind) fits all =
    plain_both (id_text id) (codes " " ++ wild_fun_text kind) (plain_id v id (fits.0, fits.1) (bytes_front (asset_id v id) (wild_fun kind) all.1)) (plain_kind kind)
plain_wild v (AllCounted count) fits all = plain_number count (omega (arith, fits.1))
plain_wild v (AllOfCounted id kind count) fits all =
    plain_both (id_text id) (codes " " ++ (wild_fun_text kind ++ (codes " " ++ decimal count)))
    (plain_id v id (fits.0, fits.1.0) (bytes_front (asset_id v id) (wild_fun kind) (bytes_front (asset_id v id ++ wild_fun kind) (compact count) all.1)))
    (plain_both (wild_fun_text kind) (codes " " ++ decimal count) (plain_kind kind) (plain_number count (omega (arith, fits.1.1))))

-- ---- weights, errors and how calls ended

plain_weight : (w : Weight) → FitsWeight w → IsPlain (weight_text w)
plain_weight w fits =
    plain_both (decimal w.ref_time ++ codes " ") (decimal w.proof_size) (plain_both (decimal w.ref_time) (codes " ") (plain_number w.ref_time (omega (arith, fits.0))) refl)
    (plain_number w.proof_size (omega (arith, fits.1)))

plain_limit : (limit : WeightLimit) → FitsLimit limit → IsPlain (limit_text limit)
unfolding limit_text
plain_limit Unlimited fits = refl
plain_limit (Limited w) fits = plain_weight w fits

plain_origin : (kind : OriginKind) → IsPlain (origin_kind_text kind)
unfolding origin_kind_text
plain_origin origins.Native = refl
plain_origin origins.SovereignAccount = refl
plain_origin origins.Superuser = refl
plain_origin origins.Xcm = refl

plain_flag : (b : Bool) → IsPlain (flag_text b)
unfolding flag_text
plain_flag true = refl
plain_flag false = refl

plain_error : (e : XcmError) → FitsError e → IsPlain (error_text e)
plain_error errors.Overflow fits = refl
plain_error errors.Unimplemented fits = refl
plain_error errors.UntrustedReserveLocation fits = refl
plain_error errors.UntrustedTeleportLocation fits = refl
plain_error errors.LocationFull fits = refl
plain_error errors.LocationNotInvertible fits = refl
plain_error errors.BadOrigin fits = refl
plain_error errors.InvalidLocation fits = refl
plain_error errors.AssetNotFound fits = refl
plain_error errors.FailedToTransactAsset fits = refl
plain_error errors.NotWithdrawable fits = refl
plain_error errors.LocationCannotHold fits = refl
plain_error errors.ExceedsMaxMessageSize fits = refl
plain_error errors.DestinationUnsupported fits = refl
plain_error errors.Transport fits = refl
plain_error errors.Unroutable fits = refl
plain_error errors.UnknownClaim fits = refl
plain_error errors.FailedToDecode fits = refl
plain_error errors.MaxWeightInvalid fits = refl
plain_error errors.NotHoldingFees fits = refl
plain_error errors.TooExpensive fits = refl
plain_error (errors.Trap code) fits = plain_both (codes "Trap(" ++ decimal code) (codes ")") (plain_number code (omega (arith, fits))) refl
plain_error errors.ExpectationFalse fits = refl
plain_error errors.PalletNotFound fits = refl
plain_error errors.NameMismatch fits = refl
plain_error errors.VersionIncompatible fits = refl
plain_error errors.HoldingWouldOverflow fits = refl
plain_error errors.ExportError fits = refl
plain_error errors.ReanchorFailed fits = refl
plain_error errors.NoDeal fits = refl
plain_error errors.FeesNotMet fits = refl
plain_error errors.LockError fits = refl
plain_error errors.NoPermission fits = refl
plain_error errors.Unanchored fits = refl
plain_error errors.NotDepositable fits = refl

plain_failure : (o : Option (ℕ × XcmError)) → IfSome o FitsFailure → IsPlain (failure_text o)
unfolding failure_text
plain_failure None fits = refl
plain_failure (Some f) fits = plain_both (decimal f.0) (codes " " ++ error_text f.1) (plain_number f.0 (omega (arith, fits.0))) (plain_error f.1 fits.1)

plain_status : (status : MaybeError) → FitsMaybeError status → AreBytes (maybe_error status) → IsPlain (status_text status)
unfolding status_text
plain_status statuses.Success fits all = refl
plain_status (statuses.Error b) fits all = plain_hex b (bytes_back (compact (length b)) b all.1)
plain_status (statuses.TruncatedError b) fits all = plain_hex b (bytes_back (compact (length b)) b all.1)

plain_valued : (v : Version) (answer : Response) → FitsValued answer → AreBytes (response v answer) → IsPlain (valued_text answer)
unfolding response_name response_value
plain_valued v responses.Null fits all = absurd fits
plain_valued v (responses.Assets list) fits all = absurd fits
plain_valued v (responses.ExecutionResult failed) fits all = plain_failure failed fits
plain_valued v (responses.Version version) fits all = plain_number version (omega (arith, fits))
plain_valued v (responses.PalletsInfo list) fits all = absurd fits
plain_valued v (responses.DispatchResult status) fits all = plain_status status fits all.1

-- ---- pallets

pallet_bytes : (p : PalletInfo) → AreBytes (pallet_info p) → AreBytes p.name × AreBytes p.module_name
unfolding pallet_info
pallet_bytes p all =
    let modules = bytes_front (compact p.index ++ bytes p.name ++ bytes p.module_name) (compact p.major)
    (bytes_front (compact p.index ++ bytes p.name ++ bytes p.module_name ++ compact p.major) (compact p.minor)
    (bytes_front (compact p.index ++ bytes p.name ++ bytes p.module_name ++ compact p.major ++ compact p.minor) (compact p.patch) all)) in
    let names = bytes_back (compact p.index) (bytes p.name) (bytes_front (compact p.index ++ bytes p.name) (bytes p.module_name) modules) in
    (bytes_back (compact (length p.name)) p.name names, bytes_back (compact (length p.module_name)) p.module_name (bytes_back (compact p.index ++ bytes p.name) (bytes p.module_name) modules))

plain_pallet : (p : PalletInfo) → FitsPallet p → AreBytes (pallet_info p) → IsPlain (pallet_text p)
unfolding pallet_text
plain_pallet p fits all =
    let b = pallet_bytes p all in
    let patch = plain_number p.patch (omega (arith, fits.5)) in
    let minor = plain_both (decimal p.minor) (codes "." ++ decimal p.patch) (plain_number p.minor (omega (arith, fits.4))) patch in
    let major = plain_both (decimal p.major) (codes "." ++ (decimal p.minor ++ (codes "." ++ decimal p.patch))) (plain_number p.major (omega (arith, fits.3))) minor in
    let modules = plain_both (hex_text p.module_name) (codes " " ++ (decimal p.major ++ (codes "." ++ (decimal p.minor ++ (codes "." ++ decimal p.patch))))) (plain_hex p.module_name b.1) major in
    let names = plain_both (hex_text p.name) (codes " " ++ (hex_text p.module_name ++ (codes " " ++ (decimal p.major ++ (codes "." ++ (decimal p.minor ++ (codes "." ++ decimal p.patch))))))) (plain_hex p.name b.0) modules in
    plain_both (decimal p.index) (codes " " ++ (hex_text p.name ++ (codes " " ++ (hex_text p.module_name ++ (codes " " ++ (decimal p.major ++ (codes "." ++ (decimal p.minor ++ (codes "." ++ decimal p.patch)))))))))
    (plain_number p.index (omega (arith, fits.0))) names

-- ---- all kinds

one : {X : Type 0} {Fits : X → Type 0} {text spelling : X → List ℕ} (words said : List ℕ) → SaysOne Fits text spelling words said → ((x : X) → Fits x → AreBytes (spelling x) → IsPlain (text x)) → IsPlain words
one words said s plain = subst IsPlain (sym s.is) (plain s.value s.fits s.all)

pub plain_words : (v : Version) (kind : Words) (words said : List ℕ) → Says v kind words said → IsPlain words
plain_words v kinds.Asset words said s = one words said s (plain_asset v)
plain_words v kinds.Wild words said s = one words said s (plain_wild v)
plain_words v kinds.Location words said s = one words said s plain_location
plain_words v kinds.LocationOrNone words said s = one words said s plain_place
plain_words v kinds.Path words said s = one words said s plain_path
plain_words v kinds.Junction words said s = one words said s plain_junction
plain_words v kinds.Network words said s = one words said s plain_network
plain_words v kinds.Number32 words said s = one words said s (λ n fits all. plain_number n (omega (arith, fits)))
plain_words v kinds.Number64 words said s = one words said s (λ n fits all. plain_number n (omega (arith, fits)))
plain_words v kinds.Weight words said s = one words said s (λ w fits all. plain_weight w fits)
plain_words v kinds.Limit words said s = one words said s (λ limit fits all. plain_limit limit fits)
plain_words v kinds.OriginKind words said s = one words said s (λ kind fits all. plain_origin kind)
plain_words v kinds.Bytes words said s = one words said s (λ b fits all. plain_hex b (bytes_back (compact (length b)) b all))
plain_words v kinds.Topic words said s = one words said s (λ b fits all. plain_hex b all)
plain_words v kinds.Flag words said s = one words said s (λ b fits all. plain_flag b)
plain_words v kinds.Failure words said s = one words said s (λ o fits all. plain_failure o fits)
plain_words v kinds.Status words said s = one words said s plain_status
plain_words v kinds.Valued words said s = one words said s (plain_valued v)
plain_words v kinds.Pallet words said s = one words said s plain_pallet
