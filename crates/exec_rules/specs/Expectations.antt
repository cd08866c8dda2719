-- Instructions that compare, and change nothing. Source: the XCM format's instruction set. Errors and statuses are the same where their
-- spellings are.
use Rattle.std.specs.Prelude.{ℕ, ◌==◌, ◌&&◌, nat_le, Bool, List, find, Option, Some, None}
use Rattle.std.specs.Str.{bytes_eq}
use Rattle.scale_codec.specs.Spelling.{optional}
use Rattle.operands.specs.declared.error.XcmError.{XcmError}
use Rattle.operands.specs.declared.error.XcmError.TheVariants as error
use Rattle.operands.specs.declared.pallet.PalletInfo.{PalletInfo}
use Rattle.operands.specs.declared.status.MaybeError.{MaybeError}
use Rattle.xcm_format.specs.Parts.{failure, maybe_error}
use Rattle.exec_base.specs.Sending.{unless}
use Rattle.exec_rules.specs.Machine.{Machine}

abbrev pub expected : Bool → Option XcmError
expected so = unless so error.ExpectationFalse None

abbrev pub same_failure : Option (ℕ × XcmError) → Option (ℕ × XcmError) → Bool
same_failure a b = bytes_eq (optional failure a) (optional failure b)

abbrev pub same_status : MaybeError → MaybeError → Bool
same_status a b = bytes_eq (maybe_error a) (maybe_error b)

abbrev pub has_names : PalletInfo → List ℕ → List ℕ → Bool
has_names info name module_name = bytes_eq info.name name && bytes_eq info.module_name module_name

-- the same first number, and at least the second
abbrev pub has_version : PalletInfo → ℕ → ℕ → Bool
has_version info major least_minor = (info.major == major) && nat_le least_minor info.minor

-- the pallet that was found by its index
abbrev pub pallet_refusal : Option PalletInfo → List ℕ → List ℕ → ℕ → ℕ → Option XcmError
pallet_refusal None name module_name major least_minor = Some error.PalletNotFound
pallet_refusal (Some info) name module_name major least_minor =
    unless (has_names info name module_name) error.NameMismatch (unless (has_version info major least_minor) error.VersionIncompatible None)

abbrev pub pallet_at : Machine → ℕ → Option PalletInfo
pallet_at m index = find (λ (info : PalletInfo). info.index == index) m.part.pallets
