-- The names of errors in the order of their indices, and parts of texts of failures. Source: the XCM format; the texts are this project's own.
use Rattle.std.specs.Prelude.{ℕ, List, [], ◌∷◌, ◌++◌, codes, decimal, ⊤}
use Rattle.operands.specs.Texts.{error_text}
use Rattle.operands.specs.declared.error.XcmError.{XcmError}
use Rattle.operands.specs.declared.error.XcmError.TheVariants.{Trap}

abbrev pub error_names : List (List ℕ)
error_names = codes "Overflow"
    ∷ codes "Unimplemented"
    ∷ codes "UntrustedReserveLocation"
    ∷ codes "UntrustedTeleportLocation"
    ∷ codes "LocationFull"
    ∷ codes "LocationNotInvertible"
    ∷ codes "BadOrigin"
    ∷ codes "InvalidLocation"
    ∷ codes "AssetNotFound"
    ∷ codes "FailedToTransactAsset"
    ∷ codes "NotWithdrawable"
    ∷ codes "LocationCannotHold"
    ∷ codes "ExceedsMaxMessageSize"
    ∷ codes "DestinationUnsupported"
    ∷ codes "Transport"
    ∷ codes "Unroutable"
    ∷ codes "UnknownClaim"
    ∷ codes "FailedToDecode"
    ∷ codes "MaxWeightInvalid"
    ∷ codes "NotHoldingFees"
    ∷ codes "TooExpensive"
    ∷ codes "Trap"
    ∷ codes "ExpectationFalse"
    ∷ codes "PalletNotFound"
    ∷ codes "NameMismatch"
    ∷ codes "VersionIncompatible"
    ∷ codes "HoldingWouldOverflow"
    ∷ codes "ExportError"
    ∷ codes "ReanchorFailed"
    ∷ codes "NoDeal"
    ∷ codes "FeesNotMet"
    ∷ codes "LockError"
    ∷ codes "NoPermission"
    ∷ codes "Unanchored"
    ∷ codes "NotDepositable"
    ∷ []

-- any but a trap, whose code is said too
abbrev pub FitsPlainError : XcmError → Type 0
FitsPlainError (Trap code) = ⊥
FitsPlainError _ = ⊤

-- what follows `Trap(`
abbrev pub trap_code_text : ℕ → List ℕ
trap_code_text code = decimal code ++ codes ")"

-- an instruction's index and its error
abbrev pub some_failure_text : ℕ × XcmError → List ℕ
some_failure_text failed = decimal failed.0 ++ (codes " " ++ error_text failed.1)
