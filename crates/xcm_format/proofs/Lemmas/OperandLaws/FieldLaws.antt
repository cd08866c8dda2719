-- One law for each type: its reader takes what is spelled, and nothing else.
-- ---- weights
use Rattle.std.proofs.Common.{◌≡◌, ℕ, ◌<◌, ◌≤◌, ◌^◌, List, ◌++◌, length, Some, refl, arith}
use Rattle.std.specs.Prelude.{IfSome}
use Rattle.std.specs.List.{AllByRecursion}
use Rattle.scale_codec.specs.Spelling.{fixed, compact, optional, counted}
use Rattle.scale_codec.specs.Reading.{Reads, below_at, indexed_at, optional_at}
use Rattle.scale_codec.proofs.Lemmas.NumberLaws.{fixed_reads}
use Rattle.scale_codec.proofs.Lemmas.Compact.{c32, c64}
use Rattle.scale_codec.proofs.Lemmas.Schemes.{◌&◌, AllFormed, reads_fits, at_most_reads, indexed_reads, made1_again, made2_reads, made3_reads, made4_reads, both_reads, formed0, formed1, optional_reads, counted_reads, measured_reads}
use Rattle.location_wire.specs.Spelling.{location, FitsLocation}
use Rattle.location_wire.specs.Reading.{location_at}
use Rattle.location_wire.proofs.Lemmas.FieldLaws.{location_reads}
use Rattle.operands.specs.declared.version.Version.{Version}
use Rattle.asset_wire.specs.Spelling.{assets}
use Rattle.asset_wire.proofs.Lemmas.FieldLaws.{assets_reads}
use Rattle.operands.specs.declared.weight.WeightLimit.{WeightLimit}
use Rattle.operands.specs.declared.weight.WeightLimit.TheVariants.{Unlimited, Limited}
use Rattle.operands.specs.declared.origin.OriginKind.{OriginKind}
use Rattle.operands.specs.declared.origin.OriginKind.TheVariants.{Native, SovereignAccount, Superuser, Xcm}
use Rattle.operands.specs.declared.error.XcmError.{XcmError}
use Rattle.operands.specs.declared.error.XcmError.TheVariants.{Overflow, Unimplemented, UntrustedReserveLocation, UntrustedTeleportLocation, LocationFull, LocationNotInvertible, BadOrigin, InvalidLocation, AssetNotFound, FailedToTransactAsset, NotWithdrawable, LocationCannotHold, ExceedsMaxMessageSize, DestinationUnsupported, Transport, Unroutable, UnknownClaim, FailedToDecode, MaxWeightInvalid, NotHoldingFees, TooExpensive, Trap, ExpectationFalse, PalletNotFound, NameMismatch, VersionIncompatible, HoldingWouldOverflow, ExportError, ReanchorFailed, NoDeal, FeesNotMet, LockError, NoPermission, Unanchored, NotDepositable}
use Rattle.operands.specs.declared.status.MaybeError.{MaybeError}
use Rattle.operands.specs.declared.status.MaybeError.TheVariants.{Success, Error, TruncatedError}
use Rattle.operands.specs.declared.query.Response.{Response}
use Rattle.operands.specs.declared.query.Response.TheVariants as responses
use Rattle.xcm_format.specs.Parts.{weight, FitsWeight, weight_limit, FitsLimit, origin_kind, xcm_error, FitsError, failure, FitsFailure, bytes, FitsBytes, maybe_error, FitsMaybeError, pallet_info, FitsPallet, query_info, FitsInfo, response, FitsResponse}
use Rattle.xcm_format.specs.Reading.{weight_at, weight_limit_forms, weight_limit_at, origin_kind_forms, origin_kind_at, error_forms, error_at, failure_at, bounded_number_at, bytes_at, maybe_error_forms, maybe_error_at, pallet_info_at, pallet_infos_at, query_info_at, response_forms, response_at}

pub weight_reads : Reads weight FitsWeight weight_at
unfolding weight weight_at
weight_reads = made2_reads compact _ _ c64 compact _ _ c64 (λ r s. record { ref_time = r; proof_size = s }) (λ w. (w.ref_time, w.proof_size)) (λ _. refl) (λ _. refl)

limit_formed : AllFormed weight_limit FitsLimit 0 weight_limit_forms
limit_formed =
    formed0 weight_limit FitsLimit 0 Unlimited refl tt
    & formed1 weight_limit FitsLimit weight _ _ weight_reads Limited 1 (λ _. refl) (λ _ h. h)
    & tt

limit_again : (l : WeightLimit) (rest : List ℕ) → FitsLimit l → indexed_at weight_limit_forms (weight_limit l ++ rest) ≡ Some (l, rest)
limit_again Unlimited rest fits = refl
limit_again (Limited w) rest fits = made1_again weight _ _ weight_reads Limited w rest fits

pub weight_limit_reads : Reads weight_limit FitsLimit weight_limit_at
unfolding weight_limit_at
weight_limit_reads = indexed_reads weight_limit FitsLimit weight_limit_forms limit_formed limit_again

-- ---- origins

origin_kind_formed : AllFormed origin_kind (λ _. Unit {0}) 0 origin_kind_forms
origin_kind_formed =
    formed0 origin_kind (λ _. Unit {0}) 0 Native refl tt
    & formed0 origin_kind (λ _. Unit {0}) 1 SovereignAccount refl tt
    & formed0 origin_kind (λ _. Unit {0}) 2 Superuser refl tt
    & formed0 origin_kind (λ _. Unit {0}) 3 Xcm refl tt
    & tt

origin_kind_again : (k : OriginKind) (rest : List ℕ) → Unit {0} → indexed_at origin_kind_forms (origin_kind k ++ rest) ≡ Some (k, rest)
origin_kind_again Native rest fits = refl
origin_kind_again SovereignAccount rest fits = refl
origin_kind_again Superuser rest fits = refl
origin_kind_again Xcm rest fits = refl

pub origin_kind_reads : Reads origin_kind (λ _. Unit {0}) origin_kind_at
unfolding origin_kind_at
origin_kind_reads = indexed_reads origin_kind (λ _. Unit {0}) origin_kind_forms origin_kind_formed origin_kind_again

-- ---- errors

error_formed : AllFormed xcm_error FitsError 0 error_forms
error_formed =
    formed0 xcm_error FitsError 0 Overflow refl tt
    & formed0 xcm_error FitsError 1 Unimplemented refl tt
    & formed0 xcm_error FitsError 2 UntrustedReserveLocation refl tt
    & formed0 xcm_error FitsError 3 UntrustedTeleportLocation refl tt
    & formed0 xcm_error FitsError 4 LocationFull refl tt
    & formed0 xcm_error FitsError 5 LocationNotInvertible refl tt
    & formed0 xcm_error FitsError 6 BadOrigin refl tt
    & formed0 xcm_error FitsError 7 InvalidLocation refl tt
    & formed0 xcm_error FitsError 8 AssetNotFound refl tt
    & formed0 xcm_error FitsError 9 FailedToTransactAsset refl tt
    & formed0 xcm_error FitsError 10 NotWithdrawable refl tt
    & formed0 xcm_error FitsError 11 LocationCannotHold refl tt
    & formed0 xcm_error FitsError 12 ExceedsMaxMessageSize refl tt
    & formed0 xcm_error FitsError 13 DestinationUnsupported refl tt
    & formed0 xcm_error FitsError 14 Transport refl tt
    & formed0 xcm_error FitsError 15 Unroutable refl tt
    & formed0 xcm_error FitsError 16 UnknownClaim refl tt
    & formed0 xcm_error FitsError 17 FailedToDecode refl tt
    & formed0 xcm_error FitsError 18 MaxWeightInvalid refl tt
    & formed0 xcm_error FitsError 19 NotHoldingFees refl tt
    & formed0 xcm_error FitsError 20 TooExpensive refl tt
    & formed1 xcm_error FitsError (fixed 8) _ _ (fixed_reads 8) Trap 21 (λ _. refl) (λ _ h. h)
    & formed0 xcm_error FitsError 22 ExpectationFalse refl tt
    & formed0 xcm_error FitsError 23 PalletNotFound refl tt
    & formed0 xcm_error FitsError 24 NameMismatch refl tt
    & formed0 xcm_error FitsError 25 VersionIncompatible refl tt
    & formed0 xcm_error FitsError 26 HoldingWouldOverflow refl tt
    & formed0 xcm_error FitsError 27 ExportError refl tt
    & formed0 xcm_error FitsError 28 ReanchorFailed refl tt
    & formed0 xcm_error FitsError 29 NoDeal refl tt
    & formed0 xcm_error FitsError 30 FeesNotMet refl tt
    & formed0 xcm_error FitsError 31 LockError refl tt
    & formed0 xcm_error FitsError 32 NoPermission refl tt
    & formed0 xcm_error FitsError 33 Unanchored refl tt
    & formed0 xcm_error FitsError 34 NotDepositable refl tt
    & tt

error_again : (e : XcmError) (rest : List ℕ) → FitsError e → indexed_at error_forms (xcm_error e ++ rest) ≡ Some (e, rest)
error_again Overflow rest fits = refl
error_again Unimplemented rest fits = refl
error_again UntrustedReserveLocation rest fits = refl
error_again UntrustedTeleportLocation rest fits = refl
error_again LocationFull rest fits = refl
error_again LocationNotInvertible rest fits = refl
error_again BadOrigin rest fits = refl
error_again InvalidLocation rest fits = refl
error_again AssetNotFound rest fits = refl
error_again FailedToTransactAsset rest fits = refl
error_again NotWithdrawable rest fits = refl
error_again LocationCannotHold rest fits = refl
error_again ExceedsMaxMessageSize rest fits = refl
error_again DestinationUnsupported rest fits = refl
error_again Transport rest fits = refl
error_again Unroutable rest fits = refl
error_again UnknownClaim rest fits = refl
error_again FailedToDecode rest fits = refl
error_again MaxWeightInvalid rest fits = refl
error_again NotHoldingFees rest fits = refl
error_again TooExpensive rest fits = refl
error_again (Trap code) rest fits = made1_again (fixed 8) _ _ (fixed_reads 8) Trap code rest fits
error_again ExpectationFalse rest fits = refl
error_again PalletNotFound rest fits = refl
error_again NameMismatch rest fits = refl
error_again VersionIncompatible rest fits = refl
error_again HoldingWouldOverflow rest fits = refl
error_again ExportError rest fits = refl
error_again ReanchorFailed rest fits = refl
error_again NoDeal rest fits = refl
error_again FeesNotMet rest fits = refl
error_again LockError rest fits = refl
error_again NoPermission rest fits = refl
error_again Unanchored rest fits = refl
error_again NotDepositable rest fits = refl

pub error_reads : Reads xcm_error FitsError error_at
unfolding error_at
error_reads = indexed_reads xcm_error FitsError error_forms error_formed error_again

pub failure_reads : Reads failure FitsFailure failure_at
unfolding failure_at
failure_reads = both_reads (fixed 4) _ _ (fixed_reads 4) xcm_error _ _ error_reads

-- ---- bytes

at_most_32 : (most : ℕ) → most < 2 ^ 32 → Reads compact (λ n. n ≤ most) (bounded_number_at most)
at_most_32 most few = at_most_reads compact _ (below_at (2 ^ 32)) c32 most (λ n h. omega arith)

pub bytes_reads_most : (most : ℕ) → most < 2 ^ 32 → Reads bytes (FitsBytes most) (bytes_at most)
unfolding bytes_at
bytes_reads_most most few = measured_reads compact _ _ (at_most_32 most few)

-- ---- calls and pallets

of_128 : Reads bytes (FitsBytes 128) (bytes_at 128)
of_128 = bytes_reads_most 128 (omega arith)

of_48 : Reads bytes (FitsBytes 48) (bytes_at 48)
of_48 = bytes_reads_most 48 (omega arith)

maybe_error_formed : AllFormed maybe_error FitsMaybeError 0 maybe_error_forms
maybe_error_formed =
    formed0 maybe_error FitsMaybeError 0 Success refl tt
    & formed1 maybe_error FitsMaybeError bytes _ _ of_128 Error 1 (λ _. refl) (λ _ h. h)
    & formed1 maybe_error FitsMaybeError bytes _ _ of_128 TruncatedError 2 (λ _. refl) (λ _ h. h)
    & tt

maybe_error_again : (m : MaybeError) (rest : List ℕ) → FitsMaybeError m → indexed_at maybe_error_forms (maybe_error m ++ rest) ≡ Some (m, rest)
maybe_error_again Success rest fits = refl
maybe_error_again (Error b) rest fits = made1_again bytes _ _ of_128 Error b rest fits
maybe_error_again (TruncatedError b) rest fits = made1_again bytes _ _ of_128 TruncatedError b rest fits

pub maybe_error_reads : Reads maybe_error FitsMaybeError maybe_error_at
unfolding maybe_error_at
maybe_error_reads = indexed_reads maybe_error FitsMaybeError maybe_error_forms maybe_error_formed maybe_error_again

pub pallet_info_reads : Reads pallet_info FitsPallet pallet_info_at
unfolding pallet_info pallet_info_at
pallet_info_reads =
    reads_fits pallet_info _ FitsPallet pallet_info_at (λ _ h. (h.0.0.0.0.0, h.0.0.0.0.1, h.0.0.0.1, h.0.0.1, h.0.1, h.1)) (λ _ h. (((((h.0, h.1), h.2), h.3), h.4), h.5))
    (made4_reads (λ n. compact n.0.0 ++ bytes n.0.1 ++ bytes n.1) _ _ (both_reads (λ n. compact n.0 ++ bytes n.1) _ _ (both_reads compact _ _ c32 bytes _ _ of_48) bytes _ _ of_48) compact _ _ c32 compact _ _ c32 compact _ _ c32
    (λ n major minor patch. record { index = n.0.0; name = n.0.1; module_name = n.1; major = major; minor = minor; patch = patch })
    (λ p. (((((p.index, p.name), p.module_name), p.major), p.minor), p.patch)) (λ _. refl) (λ _. refl))

pub pallet_infos_reads : Reads (counted compact pallet_info) (λ pallets. (length pallets ≤ 64) × AllByRecursion FitsPallet pallets) pallet_infos_at
unfolding pallet_infos_at
pallet_infos_reads = counted_reads compact (λ n. n ≤ 64) _ (at_most_32 64 (omega arith)) pallet_info _ _ pallet_info_reads

-- ---- queries

pub query_info_reads : Reads query_info FitsInfo query_info_at
unfolding query_info query_info_at
query_info_reads =
    reads_fits query_info _ FitsInfo query_info_at (λ _ h. (h.0.0, h.0.1, h.1)) (λ _ h. ((h.0, h.1), h.2))
    (made3_reads location _ _ location_reads compact _ _ c64 weight _ _ weight_reads (λ d q w. record { destination = d; query_id = q; max_weight = w }) (λ i. ((i.destination, i.query_id), i.max_weight)) (λ _. refl) (λ _. refl))

pub optional_failure_reads : Reads (optional failure) (λ o. IfSome o FitsFailure) (optional_at failure_at)
optional_failure_reads = optional_reads failure _ _ failure_reads

pub optional_location_reads : Reads (optional location) (λ o. IfSome o FitsLocation) (optional_at location_at)
optional_location_reads = optional_reads location _ _ location_reads

response_formed : (v : Version) → AllFormed (response v) (FitsResponse v) 0 (response_forms v)
response_formed v =
    formed0 (response v) (FitsResponse v) 0 responses.Null refl tt
    & formed1 (response v) (FitsResponse v) (assets v) _ _ (assets_reads v) responses.Assets 1 (λ _. refl) (λ _ h. h)
    & formed1 (response v) (FitsResponse v) (optional failure) _ _ optional_failure_reads responses.ExecutionResult 2 (λ _. refl) (λ _ h. h)
    & formed1 (response v) (FitsResponse v) (fixed 4) _ _ (fixed_reads 4) responses.Version 3 (λ _. refl) (λ _ h. h)
    & formed1 (response v) (FitsResponse v) (counted compact pallet_info) _ _ pallet_infos_reads responses.PalletsInfo 4 (λ _. refl) (λ _ h. h)
    & formed1 (response v) (FitsResponse v) maybe_error _ _ maybe_error_reads responses.DispatchResult 5 (λ _. refl) (λ _ h. h)
    & tt

response_again : (v : Version) (r : Response) (rest : List ℕ) → FitsResponse v r → indexed_at (response_forms v) (response v r ++ rest) ≡ Some (r, rest)
response_again v responses.Null rest fits = refl
response_again v (responses.Assets list) rest fits = made1_again (assets v) _ _ (assets_reads v) responses.Assets list rest fits
response_again v (responses.ExecutionResult failed) rest fits = made1_again (optional failure) _ _ optional_failure_reads responses.ExecutionResult failed rest fits
response_again v (responses.Version version) rest fits = made1_again (fixed 4) _ _ (fixed_reads 4) responses.Version version rest fits
response_again v (responses.PalletsInfo pallets) rest fits = made1_again (counted compact pallet_info) _ _ pallet_infos_reads responses.PalletsInfo pallets rest fits
response_again v (responses.DispatchResult status) rest fits = made1_again maybe_error _ _ maybe_error_reads responses.DispatchResult status rest fits

pub response_reads : (v : Version) → Reads (response v) (FitsResponse v) (response_at v)
unfolding response_at
response_reads v = indexed_reads (response v) (FitsResponse v) (response_forms v) (response_formed v) (response_again v)
