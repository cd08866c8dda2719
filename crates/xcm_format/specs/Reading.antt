-- Reading the parts of an instruction from left to right: a list of forms for each enum, in the order of the index.
use Rattle.std.specs.Prelude.{ℕ, ◌^◌, List, [], ◌∷◌, nat_le}
use Rattle.scale_codec.specs.Reading.{Reader, fixed_at, below_at, pure_reader, made1, made2, made3, made4, both_at, guarded_at, indexed_at, optional_at, counted_at, measured_at}
use Rattle.location_wire.specs.Reading.{location_at}
use Rattle.operands.specs.declared.version.Version.{Version}
use Rattle.asset_wire.specs.Reading.{assets_at}
use Rattle.operands.specs.declared.weight.Weight.{Weight}
use Rattle.operands.specs.declared.weight.WeightLimit.{WeightLimit}
use Rattle.operands.specs.declared.weight.WeightLimit.TheVariants.{Unlimited, Limited}
use Rattle.operands.specs.declared.origin.OriginKind.{OriginKind}
use Rattle.operands.specs.declared.origin.OriginKind.TheVariants.{Native, SovereignAccount, Superuser, Xcm}
use Rattle.operands.specs.declared.error.XcmError.{XcmError}
use Rattle.operands.specs.declared.error.XcmError.TheVariants.{Overflow, Unimplemented, UntrustedReserveLocation, UntrustedTeleportLocation, LocationFull, LocationNotInvertible, BadOrigin, InvalidLocation, AssetNotFound, FailedToTransactAsset, NotWithdrawable, LocationCannotHold, ExceedsMaxMessageSize, DestinationUnsupported, Transport, Unroutable, UnknownClaim, FailedToDecode, MaxWeightInvalid, NotHoldingFees, TooExpensive, Trap, ExpectationFalse, PalletNotFound, NameMismatch, VersionIncompatible, HoldingWouldOverflow, ExportError, ReanchorFailed, NoDeal, FeesNotMet, LockError, NoPermission, Unanchored, NotDepositable}
use Rattle.operands.specs.declared.status.MaybeError.{MaybeError}
use Rattle.operands.specs.declared.status.MaybeError.TheVariants.{Success, Error, TruncatedError}
use Rattle.operands.specs.declared.pallet.PalletInfo.{PalletInfo}
use Rattle.operands.specs.declared.query.QueryInfo.{QueryInfo}
use Rattle.operands.specs.declared.query.Response.{Response}
use Rattle.operands.specs.declared.query.Response.TheVariants as responses

-- ---- weights

unfoldable pub weight_at : Reader Weight
weight_at = made2 (below_at (2 ^ 64)) (below_at (2 ^ 64)) (λ ref_time proof_size. record { ref_time = ref_time; proof_size = proof_size })

abbrev pub weight_limit_forms : List (Reader WeightLimit)
weight_limit_forms = pure_reader Unlimited ∷ made1 weight_at Limited ∷ []

unfoldable pub weight_limit_at : Reader WeightLimit
weight_limit_at = indexed_at weight_limit_forms

-- ---- origins

abbrev pub origin_kind_forms : List (Reader OriginKind)
origin_kind_forms = pure_reader Native ∷ pure_reader SovereignAccount ∷ pure_reader Superuser ∷ pure_reader Xcm ∷ []

unfoldable pub origin_kind_at : Reader OriginKind
origin_kind_at = indexed_at origin_kind_forms

-- ---- errors

abbrev pub error_forms : List (Reader XcmError)
error_forms = pure_reader Overflow
    ∷ pure_reader Unimplemented
    ∷ pure_reader UntrustedReserveLocation
    ∷ pure_reader UntrustedTeleportLocation
    ∷ pure_reader LocationFull
    ∷ pure_reader LocationNotInvertible
    ∷ pure_reader BadOrigin
    ∷ pure_reader InvalidLocation
    ∷ pure_reader AssetNotFound
    ∷ pure_reader FailedToTransactAsset
    ∷ pure_reader NotWithdrawable
    ∷ pure_reader LocationCannotHold
    ∷ pure_reader ExceedsMaxMessageSize
    ∷ pure_reader DestinationUnsupported
    ∷ pure_reader Transport
    ∷ pure_reader Unroutable
    ∷ pure_reader UnknownClaim
    ∷ pure_reader FailedToDecode
    ∷ pure_reader MaxWeightInvalid
    ∷ pure_reader NotHoldingFees
    ∷ pure_reader TooExpensive
    ∷ made1 (fixed_at 8) Trap
    ∷ pure_reader ExpectationFalse
    ∷ pure_reader PalletNotFound
    ∷ pure_reader NameMismatch
    ∷ pure_reader VersionIncompatible
    ∷ pure_reader HoldingWouldOverflow
    ∷ pure_reader ExportError
    ∷ pure_reader ReanchorFailed
    ∷ pure_reader NoDeal
    ∷ pure_reader FeesNotMet
    ∷ pure_reader LockError
    ∷ pure_reader NoPermission
    ∷ pure_reader Unanchored
    ∷ pure_reader NotDepositable
    ∷ []

unfoldable pub error_at : Reader XcmError
error_at = indexed_at error_forms

-- where an execution failed, and why
unfoldable pub failure_at : Reader (ℕ × XcmError)
failure_at = both_at (fixed_at 4) error_at

-- ---- bytes

-- a number of at most so many
abbrev pub bounded_number_at : ℕ → Reader ℕ
bounded_number_at most = guarded_at (λ n. nat_le n most) (below_at (2 ^ 32))

-- at most so many bytes
unfoldable pub bytes_at : ℕ → Reader (List ℕ)
bytes_at most = measured_at (bounded_number_at most)

-- ---- calls and pallets

abbrev pub maybe_error_forms : List (Reader MaybeError)
maybe_error_forms = pure_reader Success ∷ made1 (bytes_at 128) Error ∷ made1 (bytes_at 128) TruncatedError ∷ []

unfoldable pub maybe_error_at : Reader MaybeError
maybe_error_at = indexed_at maybe_error_forms

-- the index of a pallet, its name and that of its module
abbrev pub named_at : Reader ((ℕ × List ℕ) × List ℕ)
named_at = both_at (both_at (below_at (2 ^ 32)) (bytes_at 48)) (bytes_at 48)

unfoldable pub pallet_info_at : Reader PalletInfo
pallet_info_at = made4 named_at (below_at (2 ^ 32)) (below_at (2 ^ 32)) (below_at (2 ^ 32))
    (λ named major minor patch. record { index = named.0.0; name = named.0.1; module_name = named.1; major = major; minor = minor; patch = patch })

-- at most 64
unfoldable pub pallet_infos_at : Reader (List PalletInfo)
pallet_infos_at = counted_at (bounded_number_at 64) pallet_info_at

-- ---- queries

unfoldable pub query_info_at : Reader QueryInfo
query_info_at = made3 location_at (below_at (2 ^ 64)) weight_at (λ destination query_id max_weight. record { destination = destination; query_id = query_id; max_weight = max_weight })

abbrev pub response_forms : Version → List (Reader Response)
response_forms v = pure_reader responses.Null
    ∷ made1 (assets_at v) responses.Assets
    ∷ made1 (optional_at failure_at) responses.ExecutionResult
    ∷ made1 (fixed_at 4) responses.Version
    ∷ made1 pallet_infos_at responses.PalletsInfo
    ∷ made1 maybe_error_at responses.DispatchResult
    ∷ []

unfoldable pub response_at : Version → Reader Response
response_at v = indexed_at (response_forms v)
