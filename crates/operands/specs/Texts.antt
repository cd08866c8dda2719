-- The texts of weights and errors in a report. This project's own rule; the names are the XCM format's.
use Rattle.std.specs.Prelude.{ℕ, List, ◌++◌, codes, decimal}
use Rattle.operands.specs.declared.weight.Weight.{Weight}
use Rattle.operands.specs.declared.error.XcmError.{XcmError}
use Rattle.operands.specs.declared.error.XcmError.TheVariants.{Overflow, Unimplemented, UntrustedReserveLocation, UntrustedTeleportLocation, LocationFull, LocationNotInvertible, BadOrigin, InvalidLocation, AssetNotFound, FailedToTransactAsset, NotWithdrawable, LocationCannotHold, ExceedsMaxMessageSize, DestinationUnsupported, Transport, Unroutable, UnknownClaim, FailedToDecode, MaxWeightInvalid, NotHoldingFees, TooExpensive, Trap, ExpectationFalse, PalletNotFound, NameMismatch, VersionIncompatible, HoldingWouldOverflow, ExportError, ReanchorFailed, NoDeal, FeesNotMet, LockError, NoPermission, Unanchored, NotDepositable}

abbrev pub weight_text : Weight → List ℕ
weight_text w = decimal w.ref_time ++ codes " " ++ decimal w.proof_size

abbrev pub error_text : XcmError → List ℕ
error_text Overflow = codes "Overflow"
error_text Unimplemented = codes "Unimplemented"
error_text UntrustedReserveLocation = codes "UntrustedReserveLocation"
error_text UntrustedTeleportLocation = codes "UntrustedTeleportLocation"
error_text LocationFull = codes "LocationFull"
error_text LocationNotInvertible = codes "LocationNotInvertible"
error_text BadOrigin = codes "BadOrigin"
error_text InvalidLocation = codes "InvalidLocation"
error_text AssetNotFound = codes "AssetNotFound"
error_text FailedToTransactAsset = codes "FailedToTransactAsset"
error_text NotWithdrawable = codes "NotWithdrawable"
error_text LocationCannotHold = codes "LocationCannotHold"
error_text ExceedsMaxMessageSize = codes "ExceedsMaxMessageSize"
error_text DestinationUnsupported = codes "DestinationUnsupported"
error_text Transport = codes "Transport"
error_text Unroutable = codes "Unroutable"
error_text UnknownClaim = codes "UnknownClaim"
error_text FailedToDecode = codes "FailedToDecode"
error_text MaxWeightInvalid = codes "MaxWeightInvalid"
error_text NotHoldingFees = codes "NotHoldingFees"
error_text TooExpensive = codes "TooExpensive"
error_text (Trap code) = codes "Trap(" ++ decimal code ++ codes ")"
error_text ExpectationFalse = codes "ExpectationFalse"
error_text PalletNotFound = codes "PalletNotFound"
error_text NameMismatch = codes "NameMismatch"
error_text VersionIncompatible = codes "VersionIncompatible"
error_text HoldingWouldOverflow = codes "HoldingWouldOverflow"
error_text ExportError = codes "ExportError"
error_text ReanchorFailed = codes "ReanchorFailed"
error_text NoDeal = codes "NoDeal"
error_text FeesNotMet = codes "FeesNotMet"
error_text LockError = codes "LockError"
error_text NoPermission = codes "NoPermission"
error_text Unanchored = codes "Unanchored"
error_text NotDepositable = codes "NotDepositable"
