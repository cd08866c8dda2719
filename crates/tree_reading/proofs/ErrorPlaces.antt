-- Where the names of errors stand.
use Rattle.std.proofs.Common.{◌≡◌, ℕ, ◌<◌, false, eqb, [], ◌∷◌, get_or, refl, lit<}
use Rattle.operands.specs.Texts.{error_text}
use Rattle.operands.specs.declared.error.XcmError.{XcmError}
use Rattle.operands.specs.declared.error.XcmError.TheVariants.{Overflow, Unimplemented, UntrustedReserveLocation, UntrustedTeleportLocation, LocationFull, LocationNotInvertible, BadOrigin, InvalidLocation, AssetNotFound, FailedToTransactAsset, NotWithdrawable, LocationCannotHold, ExceedsMaxMessageSize, DestinationUnsupported, Transport, Unroutable, UnknownClaim, FailedToDecode, MaxWeightInvalid, NotHoldingFees, TooExpensive, Trap, ExpectationFalse, PalletNotFound, NameMismatch, VersionIncompatible, HoldingWouldOverflow, ExportError, ReanchorFailed, NoDeal, FeesNotMet, LockError, NoPermission, Unanchored, NotDepositable}
use Rattle.xcm_format.specs.Parts.{xcm_error}
use Rattle.tree_reading.specs.Errors.{error_names, FitsPlainError}
use Rattle.tree_reading.proofs.Once.{IsOnce, once_from, index_in}

pub errors_once : IsOnce error_names
unfolding once_from index_in
errors_once = refl

pub error_place : (e : XcmError) → FitsPlainError e → (k : ℕ) × (k < 35) × (error_text e ≡ get_or error_names k []) × (xcm_error e ≡ k ∷ [])
error_place Overflow fits = (0, lit< tt, refl, refl)
error_place Unimplemented fits = (1, lit< tt, refl, refl)
error_place UntrustedReserveLocation fits = (2, lit< tt, refl, refl)
error_place UntrustedTeleportLocation fits = (3, lit< tt, refl, refl)
error_place LocationFull fits = (4, lit< tt, refl, refl)
error_place LocationNotInvertible fits = (5, lit< tt, refl, refl)
error_place BadOrigin fits = (6, lit< tt, refl, refl)
error_place InvalidLocation fits = (7, lit< tt, refl, refl)
error_place AssetNotFound fits = (8, lit< tt, refl, refl)
error_place FailedToTransactAsset fits = (9, lit< tt, refl, refl)
error_place NotWithdrawable fits = (10, lit< tt, refl, refl)
error_place LocationCannotHold fits = (11, lit< tt, refl, refl)
error_place ExceedsMaxMessageSize fits = (12, lit< tt, refl, refl)
error_place DestinationUnsupported fits = (13, lit< tt, refl, refl)
error_place Transport fits = (14, lit< tt, refl, refl)
error_place Unroutable fits = (15, lit< tt, refl, refl)
error_place UnknownClaim fits = (16, lit< tt, refl, refl)
error_place FailedToDecode fits = (17, lit< tt, refl, refl)
error_place MaxWeightInvalid fits = (18, lit< tt, refl, refl)
error_place NotHoldingFees fits = (19, lit< tt, refl, refl)
error_place TooExpensive fits = (20, lit< tt, refl, refl)
error_place (Trap code) fits = absurd fits
error_place ExpectationFalse fits = (22, lit< tt, refl, refl)
error_place PalletNotFound fits = (23, lit< tt, refl, refl)
error_place NameMismatch fits = (24, lit< tt, refl, refl)
error_place VersionIncompatible fits = (25, lit< tt, refl, refl)
error_place HoldingWouldOverflow fits = (26, lit< tt, refl, refl)
error_place ExportError fits = (27, lit< tt, refl, refl)
error_place ReanchorFailed fits = (28, lit< tt, refl, refl)
error_place NoDeal fits = (29, lit< tt, refl, refl)
error_place FeesNotMet fits = (30, lit< tt, refl, refl)
error_place LockError fits = (31, lit< tt, refl, refl)
error_place NoPermission fits = (32, lit< tt, refl, refl)
error_place Unanchored fits = (33, lit< tt, refl, refl)
error_place NotDepositable fits = (34, lit< tt, refl, refl)

-- the fifth letter of no name is a parenthesis
pub no_trap : (e : XcmError) → FitsPlainError e → eqb 40 (get_or (error_text e) 4 0) ≡ false
no_trap Overflow fits = refl
no_trap Unimplemented fits = refl
no_trap UntrustedReserveLocation fits = refl
no_trap UntrustedTeleportLocation fits = refl
no_trap LocationFull fits = refl
no_trap LocationNotInvertible fits = refl
no_trap BadOrigin fits = refl
no_trap InvalidLocation fits = refl
no_trap AssetNotFound fits = refl
no_trap FailedToTransactAsset fits = refl
no_trap NotWithdrawable fits = refl
no_trap LocationCannotHold fits = refl
no_trap ExceedsMaxMessageSize fits = refl
no_trap DestinationUnsupported fits = refl
no_trap Transport fits = refl
no_trap Unroutable fits = refl
no_trap UnknownClaim fits = refl
no_trap FailedToDecode fits = refl
no_trap MaxWeightInvalid fits = refl
no_trap NotHoldingFees fits = refl
no_trap TooExpensive fits = refl
no_trap (Trap code) fits = absurd fits
no_trap ExpectationFalse fits = refl
no_trap PalletNotFound fits = refl
no_trap NameMismatch fits = refl
no_trap VersionIncompatible fits = refl
no_trap HoldingWouldOverflow fits = refl
no_trap ExportError fits = refl
no_trap ReanchorFailed fits = refl
no_trap NoDeal fits = refl
no_trap FeesNotMet fits = refl
no_trap LockError fits = refl
no_trap NoPermission fits = refl
no_trap Unanchored fits = refl
no_trap NotDepositable fits = refl
