-- An instruction without the program inside: a line for each in either law.
-- ---- fields that are options or bytes
use Rattle.std.proofs.Common.{◌≡◌, ℕ, ◌+◌, ◌-◌, Bool, true, false, ltb, cond, List, [], ◌∷◌, ◌++◌, Option, Some, Result, Ok, Err, refl, sym, ap, ◌∙◌, arith}
use Rattle.std.proofs.lemmas.Bool.{ltb-false}
use Rattle.std.specs.Prelude.{IfSome, IfOk, OnErr}
use Rattle.scale_codec.specs.Spelling.{compact, flag, optional}
use Rattle.scale_codec.specs.Reading.{Reader, Reads, u8_at, reader_by_index, optional_at}
use Rattle.scale_codec.proofs.Lemmas.Steps.{bind_some}
use Rattle.scale_codec.proofs.Lemmas.NumberLaws.{byte_takes, bytes_reads}
use Rattle.scale_codec.proofs.Lemmas.Compact.{c32, c64}
use Rattle.scale_codec.proofs.Lemmas.Schemes.{◌&◌, AllFormed, chosen_takes, formed0, formed1, formed2, formed3, formed4, formed5, made1_again, made2_again, made3_again, made4_again, made5_again, flag_reads, optional_reads}
use Rattle.location_wire.specs.Spelling.{network, junction, junctions, location, FitsLocation}
use Rattle.location_wire.specs.Reading.{location_at}
use Rattle.location_wire.proofs.Lemmas.FieldLaws.{network_reads, junction_reads, junctions_reads, location_reads}
use Rattle.operands.specs.declared.version.Version.{Version}
use Rattle.asset_wire.specs.Spelling.{asset, assets, filter}
use Rattle.asset_wire.proofs.Lemmas.FieldLaws.{asset_reads, assets_reads, filter_reads}
use Rattle.scale_codec.specs.declared.faults.WireFault.{WireFault}
use Rattle.scale_codec.specs.declared.faults.WireFault.TheVariants as faults
use Rattle.scale_codec.specs.Answers.{GotOrFails, IsReadOrFails}
use Rattle.xcm_format.specs.Parts.{weight, weight_limit, origin_kind, failure, FitsFailure, bytes, FitsBytes, maybe_error, query_info, response}
use Rattle.xcm_format.specs.Reading.{failure_at, bytes_at}
use Rattle.xcm_format.proofs.Lemmas.OperandLaws.FieldLaws.{weight_reads, weight_limit_reads, origin_kind_reads, failure_reads, bytes_reads_most, maybe_error_reads, query_info_reads, response_reads}
use Rattle.xcm_program.specs.declared.instruction.Instruction.{Instruction, out-Instruction}
use Rattle.xcm_program.specs.declared.instruction.Instruction.TheOpen.{Instruction-F}
use Rattle.xcm_program.specs.Measure.{with_inner}
use Rattle.xcm_format.specs.Programs.{head, FitsHead}
use Rattle.xcm_format.proofs.Lemmas.{head-with}
use Rattle.instruction_reading.specs.Reading.{Layer, forms0, forms1, forms2, forms3, forms4, forms5, group0_at, group1_at, group2_at, group3_at, group4_at, group5_at, form_at, head_at}
use Rattle.plain_lists.proofs.Lemmas.Facts.{same_some}

optional_location_reads : Reads (optional location) (λ o. IfSome o FitsLocation) (optional_at location_at)
optional_location_reads = optional_reads location _ _ location_reads

optional_failure_reads : Reads (optional failure) (λ o. IfSome o FitsFailure) (optional_at failure_at)
optional_failure_reads = optional_reads failure _ _ failure_reads

long_bytes_reads : Reads bytes (FitsBytes 4294967295) (bytes_at 4294967295)
long_bytes_reads = bytes_reads_most 4294967295 (omega arith)

-- ---- what is read was spelled

forms0_formed : (v : Version) → AllFormed (head v) (FitsHead v) 0 (forms0 v)
unfolding head
forms0_formed v =
    formed1 (head v) (FitsHead v) (assets v) _ _ (assets_reads v) Instruction-F.WithdrawAsset 0 (λ _. refl) (λ _ h. h)
    & formed1 (head v) (FitsHead v) (assets v) _ _ (assets_reads v) Instruction-F.ReserveAssetDeposited 1 (λ _. refl) (λ _ h. h)
    & formed1 (head v) (FitsHead v) (assets v) _ _ (assets_reads v) Instruction-F.ReceiveTeleportedAsset 2 (λ _. refl) (λ _ h. h)
    & formed4 (head v) (FitsHead v) compact _ _ c64 (response v) _ _ (response_reads v) weight _ _ weight_reads (optional location) _ _ optional_location_reads Instruction-F.QueryResponse 3 (λ _ _ _ _. refl) (λ _ _ _ _ h i j k. (h, i, j, k))
    & formed2 (head v) (FitsHead v) (assets v) _ _ (assets_reads v) location _ _ location_reads Instruction-F.TransferAsset 4 (λ _ _. refl) (λ _ _ h i. (h, i))
    & formed2 (head v) (FitsHead v) (assets v) _ _ (assets_reads v) location _ _ location_reads (λ list place. Instruction-F.TransferReserveAsset list place []) 5 (λ _ _. refl) (λ _ _ h i. (h, i))
    & formed3 (head v) (FitsHead v) origin_kind _ _ origin_kind_reads weight _ _ weight_reads bytes _ _ long_bytes_reads Instruction-F.Transact 6 (λ _ _ _. refl) (λ _ _ _ _ i j. (i, j))
    & formed3 (head v) (FitsHead v) compact _ _ c32 compact _ _ c32 compact _ _ c32 Instruction-F.HrmpNewChannelOpenRequest 7 (λ _ _ _. refl) (λ _ _ _ h i j. (h, i, j))
    & tt

forms1_formed : (v : Version) → AllFormed (head v) (FitsHead v) 8 (forms1 v)
unfolding head
forms1_formed v =
    formed1 (head v) (FitsHead v) compact _ _ c32 Instruction-F.HrmpChannelAccepted 8 (λ _. refl) (λ _ h. h)
    & formed3 (head v) (FitsHead v) compact _ _ c32 compact _ _ c32 compact _ _ c32 Instruction-F.HrmpChannelClosing 9 (λ _ _ _. refl) (λ _ _ _ h i j. (h, i, j))
    & formed0 (head v) (FitsHead v) 10 Instruction-F.ClearOrigin refl tt
    & formed1 (head v) (FitsHead v) junctions _ _ junctions_reads Instruction-F.DescendOrigin 11 (λ _. refl) (λ _ h. h)
    & formed1 (head v) (FitsHead v) query_info _ _ query_info_reads Instruction-F.ReportError 12 (λ _. refl) (λ _ h. h)
    & formed2 (head v) (FitsHead v) (filter v) _ _ (filter_reads v) location _ _ location_reads Instruction-F.DepositAsset 13 (λ _ _. refl) (λ _ _ h i. (h, i))
    & formed2 (head v) (FitsHead v) (filter v) _ _ (filter_reads v) location _ _ location_reads (λ taken place. Instruction-F.DepositReserveAsset taken place []) 14 (λ _ _. refl) (λ _ _ h i. (h, i))
    & formed3 (head v) (FitsHead v) (filter v) _ _ (filter_reads v) (assets v) _ _ (assets_reads v) flag _ _ flag_reads Instruction-F.ExchangeAsset 15 (λ _ _ _. refl) (λ _ _ _ h i _. (h, i))
    & tt

forms2_formed : (v : Version) → AllFormed (head v) (FitsHead v) 16 (forms2 v)
unfolding head
forms2_formed v =
    formed2 (head v) (FitsHead v) (filter v) _ _ (filter_reads v) location _ _ location_reads (λ taken place. Instruction-F.InitiateReserveWithdraw taken place []) 16 (λ _ _. refl) (λ _ _ h i. (h, i))
    & formed2 (head v) (FitsHead v) (filter v) _ _ (filter_reads v) location _ _ location_reads (λ taken place. Instruction-F.InitiateTeleport taken place []) 17 (λ _ _. refl) (λ _ _ h i. (h, i))
    & formed2 (head v) (FitsHead v) query_info _ _ query_info_reads (filter v) _ _ (filter_reads v) Instruction-F.ReportHolding 18 (λ _ _. refl) (λ _ _ h i. (h, i))
    & formed2 (head v) (FitsHead v) (asset v) _ _ (asset_reads v) weight_limit _ _ weight_limit_reads Instruction-F.BuyExecution 19 (λ _ _. refl) (λ _ _ h i. (h, i))
    & formed0 (head v) (FitsHead v) 20 Instruction-F.RefundSurplus refl tt
    & formed0 (head v) (FitsHead v) 21 (Instruction-F.SetErrorHandler []) refl tt
    & formed0 (head v) (FitsHead v) 22 (Instruction-F.SetAppendix []) refl tt
    & formed0 (head v) (FitsHead v) 23 Instruction-F.ClearError refl tt
    & tt

forms3_formed : (v : Version) → AllFormed (head v) (FitsHead v) 24 (forms3 v)
unfolding head
forms3_formed v =
    formed2 (head v) (FitsHead v) (assets v) _ _ (assets_reads v) location _ _ location_reads Instruction-F.ClaimAsset 24 (λ _ _. refl) (λ _ _ h i. (h, i))
    & formed1 (head v) (FitsHead v) compact _ _ c64 Instruction-F.Trap 25 (λ _. refl) (λ _ h. h)
    & formed2 (head v) (FitsHead v) compact _ _ c64 weight _ _ weight_reads Instruction-F.SubscribeVersion 26 (λ _ _. refl) (λ _ _ h i. (h, i))
    & formed0 (head v) (FitsHead v) 27 Instruction-F.UnsubscribeVersion refl tt
    & formed1 (head v) (FitsHead v) (assets v) _ _ (assets_reads v) Instruction-F.BurnAsset 28 (λ _. refl) (λ _ h. h)
    & formed1 (head v) (FitsHead v) (assets v) _ _ (assets_reads v) Instruction-F.ExpectAsset 29 (λ _. refl) (λ _ h. h)
    & formed1 (head v) (FitsHead v) (optional location) _ _ optional_location_reads Instruction-F.ExpectOrigin 30 (λ _. refl) (λ _ h. h)
    & formed1 (head v) (FitsHead v) (optional failure) _ _ optional_failure_reads Instruction-F.ExpectError 31 (λ _. refl) (λ _ h. h)
    & tt

forms4_formed : (v : Version) → AllFormed (head v) (FitsHead v) 32 (forms4 v)
unfolding head
forms4_formed v =
    formed1 (head v) (FitsHead v) maybe_error _ _ maybe_error_reads Instruction-F.ExpectTransactStatus 32 (λ _. refl) (λ _ h. h)
    & formed2 (head v) (FitsHead v) bytes _ _ long_bytes_reads query_info _ _ query_info_reads Instruction-F.QueryPallet 33 (λ _ _. refl) (λ _ _ h i. (h, i))
    & formed5 (head v) (FitsHead v) compact _ _ c32 bytes _ _ long_bytes_reads bytes _ _ long_bytes_reads compact _ _ c32 compact _ _ c32 Instruction-F.ExpectPallet 34 (λ _ _ _ _ _. refl) (λ _ _ _ _ _ h i j k l. (h, i, j, k, l))
    & formed1 (head v) (FitsHead v) query_info _ _ query_info_reads Instruction-F.ReportTransactStatus 35 (λ _. refl) (λ _ h. h)
    & formed0 (head v) (FitsHead v) 36 Instruction-F.ClearTransactStatus refl tt
    & formed1 (head v) (FitsHead v) junction _ _ junction_reads Instruction-F.UniversalOrigin 37 (λ _. refl) (λ _ h. h)
    & formed2 (head v) (FitsHead v) network _ _ network_reads junctions _ _ junctions_reads (λ net path. Instruction-F.ExportMessage net path []) 38 (λ _ _. refl) (λ _ _ h i. (h, i))
    & formed2 (head v) (FitsHead v) (asset v) _ _ (asset_reads v) location _ _ location_reads Instruction-F.LockAsset 39 (λ _ _. refl) (λ _ _ h i. (h, i))
    & tt

forms5_formed : (v : Version) → AllFormed (head v) (FitsHead v) 40 (forms5 v)
unfolding head
forms5_formed v =
    formed2 (head v) (FitsHead v) (asset v) _ _ (asset_reads v) location _ _ location_reads Instruction-F.UnlockAsset 40 (λ _ _. refl) (λ _ _ h i. (h, i))
    & formed2 (head v) (FitsHead v) (asset v) _ _ (asset_reads v) location _ _ location_reads Instruction-F.NoteUnlockable 41 (λ _ _. refl) (λ _ _ h i. (h, i))
    & formed2 (head v) (FitsHead v) (asset v) _ _ (asset_reads v) location _ _ location_reads Instruction-F.RequestUnlock 42 (λ _ _. refl) (λ _ _ h i. (h, i))
    & formed1 (head v) (FitsHead v) flag _ _ flag_reads Instruction-F.SetFeesMode 43 (λ _. refl) (λ _ _. tt)
    & formed1 (head v) (FitsHead v) (λ x. x) _ _ (bytes_reads 32) Instruction-F.SetTopic 44 (λ _. refl) (λ _ h. h)
    & formed0 (head v) (FitsHead v) 45 Instruction-F.ClearTopic refl tt
    & formed1 (head v) (FitsHead v) location _ _ location_reads Instruction-F.AliasOrigin 46 (λ _. refl) (λ _ h. h)
    & formed2 (head v) (FitsHead v) weight_limit _ _ weight_limit_reads (optional location) _ _ optional_location_reads Instruction-F.UnpaidExecution 47 (λ _ _. refl) (λ _ _ h i. (h, i))
    & tt

-- the form at n of a group that begins at `first`
group_takes : (v : Version) (first : ℕ) (forms : List (Reader Layer)) → AllFormed (head v) (FitsHead v) first forms → (k n : ℕ) → first + n ≡ k → (bytes : List ℕ) (l : Layer) (rest : List ℕ)
    → reader_by_index forms n bytes ≡ Some (l, rest) → (k ∷ bytes ≡ head v l ++ rest) × FitsHead v l
group_takes v first forms formed k n is bytes l rest e = rw is at (chosen_takes (head v) (FitsHead v) forms first formed n bytes l rest e)

-- whichever a test picks
by_test : {X : Type 0} (b : Bool) (p q : Option X) (x : X) (C : Type 0) → (p ≡ Some x → C) → ((b ≡ false) → q ≡ Some x → C) → cond b p q ≡ Some x → C
by_test true p q x C first second e = first e
by_test false p q x C first second e = second refl e

form_takes : (v : Version) (k : ℕ) (bytes : List ℕ) (l : Layer) (rest : List ℕ) → form_at v k bytes ≡ Some (l, rest) → (k ∷ bytes ≡ head v l ++ rest) × FitsHead v l
unfolding form_at group0_at group1_at group2_at group3_at group4_at group5_at
form_takes v k bytes l rest =
    by_test (ltb k 8) _ _ (l, rest) _ (group_takes v 0 (forms0 v) (forms0_formed v) k k (omega arith) bytes l rest) (λ past8.
    by_test (ltb k 16) _ _ (l, rest) _ (group_takes v 8 (forms1 v) (forms1_formed v) k (k - 8) (omega (arith, ltb-false k 8 past8)) bytes l rest) (λ past16.
    by_test (ltb k 24) _ _ (l, rest) _ (group_takes v 16 (forms2 v) (forms2_formed v) k (k - 16) (omega (arith, ltb-false k 16 past16)) bytes l rest) (λ past24.
    by_test (ltb k 32) _ _ (l, rest) _ (group_takes v 24 (forms3 v) (forms3_formed v) k (k - 24) (omega (arith, ltb-false k 24 past24)) bytes l rest) (λ past32.
    by_test (ltb k 40) _ _ (l, rest) _ (group_takes v 32 (forms4 v) (forms4_formed v) k (k - 32) (omega (arith, ltb-false k 32 past32)) bytes l rest) (λ past40.
    by_test (ltb k 48) _ _ (l, rest) _ (group_takes v 40 (forms5 v) (forms5_formed v) k (k - 40) (omega (arith, ltb-false k 40 past40)) bytes l rest) (λ past48.
    λ none. absurd cc))))))

pub head_takes : (v : Version) (bytes : List ℕ) (l : Layer) (rest : List ℕ) → head_at v bytes ≡ Some (l, rest) → (bytes ≡ head v l ++ rest) × FitsHead v l
unfolding head_at
head_takes v bytes l rest e =
    let a = bind_some (u8_at bytes) (λ k. form_at v k.0 k.1) (l, rest) e in
    let b = byte_takes bytes a.0.0 a.0.1 a.1 in
    let t = form_takes v a.0.0 a.0.1 l rest a.2 in
    (b.0 ∙ t.0, t.1)

-- ---- what was spelled is read

pub head_again : (v : Version) (l : Layer) (rest : List ℕ) → FitsHead v l → head_at v (head v l ++ rest) ≡ Some (with_inner l [], rest)
unfolding head_at form_at group0_at group1_at group2_at group3_at group4_at group5_at head
head_again v (Instruction-F.WithdrawAsset list) rest fits = made1_again (assets v) _ _ (assets_reads v) Instruction-F.WithdrawAsset list rest fits
head_again v (Instruction-F.ReserveAssetDeposited list) rest fits = made1_again (assets v) _ _ (assets_reads v) Instruction-F.ReserveAssetDeposited list rest fits
head_again v (Instruction-F.ReceiveTeleportedAsset list) rest fits = made1_again (assets v) _ _ (assets_reads v) Instruction-F.ReceiveTeleportedAsset list rest fits
head_again v (Instruction-F.QueryResponse id answer w asker) rest fits = made4_again compact _ _ c64 (response v) _ _ (response_reads v) weight _ _ weight_reads (optional location) _ _ optional_location_reads Instruction-F.QueryResponse id answer w asker rest fits.0 fits.1 fits.2 fits.3
head_again v (Instruction-F.TransferAsset list place) rest fits = made2_again (assets v) _ _ (assets_reads v) location _ _ location_reads Instruction-F.TransferAsset list place rest fits.0 fits.1
head_again v (Instruction-F.TransferReserveAsset list place _) rest fits = made2_again (assets v) _ _ (assets_reads v) location _ _ location_reads (λ list place. Instruction-F.TransferReserveAsset list place []) list place rest fits.0 fits.1
head_again v (Instruction-F.Transact kind w call) rest fits = made3_again origin_kind _ _ origin_kind_reads weight _ _ weight_reads bytes _ _ long_bytes_reads Instruction-F.Transact kind w call rest tt fits.0 fits.1
head_again v (Instruction-F.HrmpNewChannelOpenRequest sender size capacity) rest fits = made3_again compact _ _ c32 compact _ _ c32 compact _ _ c32 Instruction-F.HrmpNewChannelOpenRequest sender size capacity rest fits.0 fits.1 fits.2
head_again v (Instruction-F.HrmpChannelAccepted recipient) rest fits = made1_again compact _ _ c32 Instruction-F.HrmpChannelAccepted recipient rest fits
head_again v (Instruction-F.HrmpChannelClosing initiator sender recipient) rest fits = made3_again compact _ _ c32 compact _ _ c32 compact _ _ c32 Instruction-F.HrmpChannelClosing initiator sender recipient rest fits.0 fits.1 fits.2
head_again v Instruction-F.ClearOrigin rest fits = refl
head_again v (Instruction-F.DescendOrigin path) rest fits = made1_again junctions _ _ junctions_reads Instruction-F.DescendOrigin path rest fits
head_again v (Instruction-F.ReportError query) rest fits = made1_again query_info _ _ query_info_reads Instruction-F.ReportError query rest fits
head_again v (Instruction-F.DepositAsset taken place) rest fits = made2_again (filter v) _ _ (filter_reads v) location _ _ location_reads Instruction-F.DepositAsset taken place rest fits.0 fits.1
head_again v (Instruction-F.DepositReserveAsset taken place _) rest fits = made2_again (filter v) _ _ (filter_reads v) location _ _ location_reads (λ taken place. Instruction-F.DepositReserveAsset taken place []) taken place rest fits.0 fits.1
head_again v (Instruction-F.ExchangeAsset taken list maximal) rest fits = made3_again (filter v) _ _ (filter_reads v) (assets v) _ _ (assets_reads v) flag _ _ flag_reads Instruction-F.ExchangeAsset taken list maximal rest fits.0 fits.1 tt
head_again v (Instruction-F.InitiateReserveWithdraw taken place _) rest fits = made2_again (filter v) _ _ (filter_reads v) location _ _ location_reads (λ taken place. Instruction-F.InitiateReserveWithdraw taken place []) taken place rest fits.0 fits.1
head_again v (Instruction-F.InitiateTeleport taken place _) rest fits = made2_again (filter v) _ _ (filter_reads v) location _ _ location_reads (λ taken place. Instruction-F.InitiateTeleport taken place []) taken place rest fits.0 fits.1
head_again v (Instruction-F.ReportHolding query taken) rest fits = made2_again query_info _ _ query_info_reads (filter v) _ _ (filter_reads v) Instruction-F.ReportHolding query taken rest fits.0 fits.1
head_again v (Instruction-F.BuyExecution fees most) rest fits = made2_again (asset v) _ _ (asset_reads v) weight_limit _ _ weight_limit_reads Instruction-F.BuyExecution fees most rest fits.0 fits.1
head_again v Instruction-F.RefundSurplus rest fits = refl
head_again v (Instruction-F.SetErrorHandler _) rest fits = refl
head_again v (Instruction-F.SetAppendix _) rest fits = refl
head_again v Instruction-F.ClearError rest fits = refl
head_again v (Instruction-F.ClaimAsset list place) rest fits = made2_again (assets v) _ _ (assets_reads v) location _ _ location_reads Instruction-F.ClaimAsset list place rest fits.0 fits.1
head_again v (Instruction-F.Trap code) rest fits = made1_again compact _ _ c64 Instruction-F.Trap code rest fits
head_again v (Instruction-F.SubscribeVersion id w) rest fits = made2_again compact _ _ c64 weight _ _ weight_reads Instruction-F.SubscribeVersion id w rest fits.0 fits.1
head_again v Instruction-F.UnsubscribeVersion rest fits = refl
head_again v (Instruction-F.BurnAsset list) rest fits = made1_again (assets v) _ _ (assets_reads v) Instruction-F.BurnAsset list rest fits
head_again v (Instruction-F.ExpectAsset list) rest fits = made1_again (assets v) _ _ (assets_reads v) Instruction-F.ExpectAsset list rest fits
head_again v (Instruction-F.ExpectOrigin place) rest fits = made1_again (optional location) _ _ optional_location_reads Instruction-F.ExpectOrigin place rest fits
head_again v (Instruction-F.ExpectError failed) rest fits = made1_again (optional failure) _ _ optional_failure_reads Instruction-F.ExpectError failed rest fits
head_again v (Instruction-F.ExpectTransactStatus status) rest fits = made1_again maybe_error _ _ maybe_error_reads Instruction-F.ExpectTransactStatus status rest fits
head_again v (Instruction-F.QueryPallet text query) rest fits = made2_again bytes _ _ long_bytes_reads query_info _ _ query_info_reads Instruction-F.QueryPallet text query rest fits.0 fits.1
head_again v (Instruction-F.ExpectPallet place text module_text major minor) rest fits = made5_again compact _ _ c32 bytes _ _ long_bytes_reads bytes _ _ long_bytes_reads compact _ _ c32 compact _ _ c32 Instruction-F.ExpectPallet place text module_text major minor rest fits.0 fits.1 fits.2 fits.3 fits.4
head_again v (Instruction-F.ReportTransactStatus query) rest fits = made1_again query_info _ _ query_info_reads Instruction-F.ReportTransactStatus query rest fits
head_again v Instruction-F.ClearTransactStatus rest fits = refl
head_again v (Instruction-F.UniversalOrigin step) rest fits = made1_again junction _ _ junction_reads Instruction-F.UniversalOrigin step rest fits
head_again v (Instruction-F.ExportMessage net path _) rest fits = made2_again network _ _ network_reads junctions _ _ junctions_reads (λ net path. Instruction-F.ExportMessage net path []) net path rest fits.0 fits.1
head_again v (Instruction-F.LockAsset goods place) rest fits = made2_again (asset v) _ _ (asset_reads v) location _ _ location_reads Instruction-F.LockAsset goods place rest fits.0 fits.1
head_again v (Instruction-F.UnlockAsset goods place) rest fits = made2_again (asset v) _ _ (asset_reads v) location _ _ location_reads Instruction-F.UnlockAsset goods place rest fits.0 fits.1
head_again v (Instruction-F.NoteUnlockable goods place) rest fits = made2_again (asset v) _ _ (asset_reads v) location _ _ location_reads Instruction-F.NoteUnlockable goods place rest fits.0 fits.1
head_again v (Instruction-F.RequestUnlock goods place) rest fits = made2_again (asset v) _ _ (asset_reads v) location _ _ location_reads Instruction-F.RequestUnlock goods place rest fits.0 fits.1
head_again v (Instruction-F.SetFeesMode jit_withdraw) rest fits = made1_again flag _ _ flag_reads Instruction-F.SetFeesMode jit_withdraw rest tt
head_again v (Instruction-F.SetTopic topic) rest fits = made1_again (λ x. x) _ _ (bytes_reads 32) Instruction-F.SetTopic topic rest fits
head_again v Instruction-F.ClearTopic rest fits = refl
head_again v (Instruction-F.AliasOrigin place) rest fits = made1_again location _ _ location_reads Instruction-F.AliasOrigin place rest fits
head_again v (Instruction-F.UnpaidExecution most place) rest fits = made2_again weight_limit _ _ weight_limit_reads (optional location) _ _ optional_location_reads Instruction-F.UnpaidExecution most place rest fits.0 fits.1

-- ---- of both

-- the program inside what is read is empty
pub head_empty : (v : Version) (bytes : List ℕ) (l : Layer) (rest : List ℕ) → head_at v bytes ≡ Some (l, rest) → with_inner l [] ≡ l
head_empty v bytes l rest e =
    let t = head_takes v bytes l rest e in
    let same = same_some (with_inner l [], rest) (l, rest) (sym (head_again v l rest t.1) ∙ sym (ap (head_at v) t.0) ∙ e) in
    ap (λ (x : Layer × List ℕ). x.0) same

-- whatever follows two heads
pub head_no_prefix : (v : Version) (l m : Layer) (a b : List ℕ) → FitsHead v l → FitsHead v m → head v l ++ a ≡ head v m ++ b
    → (with_inner l [] ≡ with_inner m []) × (head v l ≡ head v m) × (a ≡ b)
head_no_prefix v l m a b fl fm is =
    let same = same_some (with_inner l [], a) (with_inner m [], b) (sym (head_again v l a fl) ∙ ap (head_at v) is ∙ head_again v m b fm) in
    let layers = ap (λ (x : Layer × List ℕ). x.0) same in
    (layers, sym (head-with v l []) ∙ ap (head v) layers ∙ head-with v m [], ap (λ (x : Layer × List ℕ). x.1) same)

-- ---- a call that answers as the reader does

pub is_head_read : (v : Version) (r : Result Instruction WireFault) (old new : List ℕ) → GotOrFails out-Instruction r (head_at v old) new → (OnErr r (new ≡ old))
    → IsReadOrFails (λ i. head v (out-Instruction i)) (λ i. FitsHead v (out-Instruction i)) r old new
is_head_read v (Ok i) old new given stays = let t = head_takes v old (out-Instruction i) new given in (t.1, t.0)
is_head_read v (Err faults.NoSpelling) old new given stays =
    ((λ i rest fits is. let found : head_at v old ≡ Some (with_inner (out-Instruction i) [], rest) = ap (head_at v) is ∙ head_again v (out-Instruction i) rest fits in absurd (cc (found, given))), stays)
is_head_read v (Err faults.Memory) old new given stays = (tt, stays)

pub is_empty_read : (v : Version) (r : Result Instruction WireFault) (old new : List ℕ) → GotOrFails out-Instruction r (head_at v old) new → IfOk r (λ i. with_inner (out-Instruction i) [] ≡ out-Instruction i)
is_empty_read v (Ok i) old new given = head_empty v old (out-Instruction i) new given
is_empty_read v (Err fault) old new given = tt
