-- The one spelling of each part of an instruction, and which values have one. Source: the XCM format, versions 3 and 4, in the SCALE
-- codec: an enum is its index and then its fields in order. This project's own profile of the two versions: the numbers of the errors (35
-- and above are refused), of the responses and of the kinds of origin, the orders of the fields and the bounds of the lists are the same in
-- both; they spell the assets of a response alone in two ways.
use Rattle.std.specs.Prelude.{ℕ, ◌<◌, ◌≤◌, ◌^◌, List, [], ◌∷◌, ◌++◌, length, IfSome, ⊤}
use Rattle.std.specs.List.{AllByRecursion}
use Rattle.scale_codec.specs.Spelling.{fixed, compact, optional, counted, measured}
use Rattle.location_wire.specs.Spelling.{location, FitsLocation}
use Rattle.operands.specs.declared.version.Version.{Version}
use Rattle.asset_wire.specs.Spelling.{assets, FitsAssets}
use Rattle.operands.specs.declared.weight.Weight.{Weight}
use Rattle.operands.specs.declared.weight.WeightLimit.{WeightLimit}
use Rattle.operands.specs.declared.weight.WeightLimit.TheVariants.{Unlimited, Limited}
use Rattle.operands.specs.declared.origin.OriginKind.{OriginKind}
use Rattle.operands.specs.declared.origin.OriginKind.TheVariants.{Native, SovereignAccount, Superuser, Xcm}
use Rattle.operands.specs.declared.error.XcmError.{XcmError}
use Rattle.operands.specs.declared.error.XcmError.TheVariants.{Overflow, Unimplemented, UntrustedReserveLocation, UntrustedTeleportLocation, LocationFull, LocationNotInvertible, BadOrigin, InvalidLocation, AssetNotFound, FailedToTransactAsset, NotWithdrawable, LocationCannotHold, ExceedsMaxMessageSize, DestinationUnsupported, Transport, Unroutable, UnknownClaim, FailedToDecode, MaxWeightInvalid, NotHoldingFees, TooExpensive, Trap, ExpectationFalse, PalletNotFound, NameMismatch, VersionIncompatible, HoldingWouldOverflow, ExportError, ReanchorFailed, NoDeal, FeesNotMet, LockError, NoPermission, Unanchored, NotDepositable}
use Rattle.operands.specs.declared.status.MaybeError.{MaybeError}
use Rattle.operands.specs.declared.status.MaybeError.TheVariants.{Success, Error, TruncatedError}
use Rattle.operands.specs.declared.pallet.PalletInfo.{PalletInfo}
use Rattle.operands.specs.declared.query.QueryInfo.{QueryInfo}
use Rattle.operands.specs.declared.query.Response.{Response}
use Rattle.operands.specs.declared.query.Response.TheVariants as responses

-- ---- weights

unfoldable pub weight : Weight → List ℕ
weight w = compact w.ref_time ++ compact w.proof_size

abbrev pub FitsWeight : Weight → Type 0
FitsWeight w = (w.ref_time < 2 ^ 64) × (w.proof_size < 2 ^ 64)

abbrev pub weight_limit : WeightLimit → List ℕ
weight_limit Unlimited = 0 ∷ []
weight_limit (Limited w) = 1 ∷ weight w

abbrev pub FitsLimit : WeightLimit → Type 0
FitsLimit Unlimited = ⊤
FitsLimit (Limited w) = FitsWeight w

-- ---- origins

abbrev pub origin_kind : OriginKind → List ℕ
origin_kind Native = 0 ∷ []
origin_kind SovereignAccount = 1 ∷ []
origin_kind Superuser = 2 ∷ []
origin_kind Xcm = 3 ∷ []

-- ---- errors

abbrev pub xcm_error : XcmError → List ℕ
xcm_error Overflow = 0 ∷ []
xcm_error Unimplemented = 1 ∷ []
xcm_error UntrustedReserveLocation = 2 ∷ []
xcm_error UntrustedTeleportLocation = 3 ∷ []
xcm_error LocationFull = 4 ∷ []
xcm_error LocationNotInvertible = 5 ∷ []
xcm_error BadOrigin = 6 ∷ []
xcm_error InvalidLocation = 7 ∷ []
xcm_error AssetNotFound = 8 ∷ []
xcm_error FailedToTransactAsset = 9 ∷ []
xcm_error NotWithdrawable = 10 ∷ []
xcm_error LocationCannotHold = 11 ∷ []
xcm_error ExceedsMaxMessageSize = 12 ∷ []
xcm_error DestinationUnsupported = 13 ∷ []
xcm_error Transport = 14 ∷ []
xcm_error Unroutable = 15 ∷ []
xcm_error UnknownClaim = 16 ∷ []
xcm_error FailedToDecode = 17 ∷ []
xcm_error MaxWeightInvalid = 18 ∷ []
xcm_error NotHoldingFees = 19 ∷ []
xcm_error TooExpensive = 20 ∷ []
xcm_error (Trap code) = 21 ∷ fixed 8 code
xcm_error ExpectationFalse = 22 ∷ []
xcm_error PalletNotFound = 23 ∷ []
xcm_error NameMismatch = 24 ∷ []
xcm_error VersionIncompatible = 25 ∷ []
xcm_error HoldingWouldOverflow = 26 ∷ []
xcm_error ExportError = 27 ∷ []
xcm_error ReanchorFailed = 28 ∷ []
xcm_error NoDeal = 29 ∷ []
xcm_error FeesNotMet = 30 ∷ []
xcm_error LockError = 31 ∷ []
xcm_error NoPermission = 32 ∷ []
xcm_error Unanchored = 33 ∷ []
xcm_error NotDepositable = 34 ∷ []

abbrev pub FitsError : XcmError → Type 0
FitsError (Trap code) = code < 2 ^ 64
FitsError _ = ⊤

-- where an execution failed, and why
abbrev pub failure : ℕ × XcmError → List ℕ
failure f = fixed 4 f.0 ++ xcm_error f.1

abbrev pub FitsFailure : ℕ × XcmError → Type 0
FitsFailure f = (f.0 < 2 ^ 32) × FitsError f.1

-- ---- bytes

-- how many, and these; `FitsBytes most` says how many there may be
abbrev pub bytes : List ℕ → List ℕ
bytes = measured compact

abbrev pub FitsBytes : ℕ → List ℕ → Type 0
FitsBytes most b = length b ≤ most

-- ---- calls and pallets

abbrev pub maybe_error : MaybeError → List ℕ
maybe_error Success = 0 ∷ []
maybe_error (Error b) = 1 ∷ bytes b
maybe_error (TruncatedError b) = 2 ∷ bytes b

abbrev pub FitsMaybeError : MaybeError → Type 0
FitsMaybeError Success = ⊤
FitsMaybeError (Error b) = FitsBytes 128 b
FitsMaybeError (TruncatedError b) = FitsBytes 128 b

unfoldable pub pallet_info : PalletInfo → List ℕ
pallet_info p = compact p.index ++ bytes p.name ++ bytes p.module_name ++ compact p.major ++ compact p.minor ++ compact p.patch

abbrev pub FitsPallet : PalletInfo → Type 0
FitsPallet p = (p.index < 2 ^ 32) × FitsBytes 48 p.name × FitsBytes 48 p.module_name × (p.major < 2 ^ 32) × (p.minor < 2 ^ 32) × (p.patch < 2 ^ 32)

-- ---- queries

unfoldable pub query_info : QueryInfo → List ℕ
query_info q = location q.destination ++ compact q.query_id ++ weight q.max_weight

abbrev pub FitsInfo : QueryInfo → Type 0
FitsInfo q = FitsLocation q.destination × (q.query_id < 2 ^ 64) × FitsWeight q.max_weight

abbrev pub response : Version → Response → List ℕ
response v responses.Null = 0 ∷ []
response v (responses.Assets list) = 1 ∷ assets v list
response v (responses.ExecutionResult failed) = 2 ∷ optional failure failed
response v (responses.Version version) = 3 ∷ fixed 4 version
response v (responses.PalletsInfo pallets) = 4 ∷ counted compact pallet_info pallets
response v (responses.DispatchResult status) = 5 ∷ maybe_error status

abbrev pub FitsResponse : Version → Response → Type 0
FitsResponse v responses.Null = ⊤
FitsResponse v (responses.Assets list) = FitsAssets v list
FitsResponse v (responses.ExecutionResult failed) = IfSome failed FitsFailure
FitsResponse v (responses.Version version) = version < 2 ^ 32
FitsResponse v (responses.PalletsInfo pallets) = (length pallets ≤ 64) × AllByRecursion FitsPallet pallets
FitsResponse v (responses.DispatchResult status) = FitsMaybeError status
