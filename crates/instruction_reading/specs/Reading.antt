-- Reading instructions from left to right, without the programs inside: a list of forms for each eight of the indices. Source: the XCM
-- format, versions 3 and 4: an instruction is its index and then its fields in order.
use Rattle.std.specs.Prelude.{ℕ, ◌-◌, ◌^◌, List, [], ◌∷◌, None, nat_lt, if◌then◌else◌}
use Rattle.scale_codec.specs.Reading.{◌>>=◌, Reader, u8_at, below_at, take_at, pure_reader, made1, made2, made3, made4, made5, reader_by_index, flag_at, optional_at}
use Rattle.location_wire.specs.Reading.{network_at, junction_at, junctions_at, location_at}
use Rattle.operands.specs.declared.version.Version.{Version}
use Rattle.asset_wire.specs.Reading.{asset_at, assets_at, filter_at}
use Rattle.xcm_format.specs.Reading.{weight_at, weight_limit_at, origin_kind_at, failure_at, bytes_at, maybe_error_at, query_info_at, response_at}
use Rattle.xcm_program.specs.declared.instruction.Instruction.{Instruction}
use Rattle.xcm_program.specs.declared.instruction.Instruction.TheOpen.{Instruction-F}

-- an instruction by its outermost layer
abbrev pub Layer : Type 0
Layer = Instruction-F Instruction

-- ---- the fields after an index, with an empty program instead of the one inside, which comes last

abbrev pub forms0 : Version → List (Reader Layer)
forms0 v = made1 (assets_at v) Instruction-F.WithdrawAsset
    ∷ made1 (assets_at v) Instruction-F.ReserveAssetDeposited
    ∷ made1 (assets_at v) Instruction-F.ReceiveTeleportedAsset
    ∷ made4 (below_at (2 ^ 64)) (response_at v) weight_at (optional_at location_at) Instruction-F.QueryResponse
    ∷ made2 (assets_at v) location_at Instruction-F.TransferAsset
    ∷ made2 (assets_at v) location_at (λ list place. Instruction-F.TransferReserveAsset list place [])
    ∷ made3 origin_kind_at weight_at (bytes_at 4294967295) Instruction-F.Transact
    ∷ made3 (below_at (2 ^ 32)) (below_at (2 ^ 32)) (below_at (2 ^ 32)) Instruction-F.HrmpNewChannelOpenRequest
    ∷ []

abbrev pub forms1 : Version → List (Reader Layer)
forms1 v = made1 (below_at (2 ^ 32)) Instruction-F.HrmpChannelAccepted
    ∷ made3 (below_at (2 ^ 32)) (below_at (2 ^ 32)) (below_at (2 ^ 32)) Instruction-F.HrmpChannelClosing
    ∷ pure_reader Instruction-F.ClearOrigin
    ∷ made1 junctions_at Instruction-F.DescendOrigin
    ∷ made1 query_info_at Instruction-F.ReportError
    ∷ made2 (filter_at v) location_at Instruction-F.DepositAsset
    ∷ made2 (filter_at v) location_at (λ taken place. Instruction-F.DepositReserveAsset taken place [])
    ∷ made3 (filter_at v) (assets_at v) flag_at Instruction-F.ExchangeAsset
    ∷ []

abbrev pub forms2 : Version → List (Reader Layer)
forms2 v = made2 (filter_at v) location_at (λ taken place. Instruction-F.InitiateReserveWithdraw taken place [])
    ∷ made2 (filter_at v) location_at (λ taken place. Instruction-F.InitiateTeleport taken place [])
    ∷ made2 query_info_at (filter_at v) Instruction-F.ReportHolding
    ∷ made2 (asset_at v) weight_limit_at Instruction-F.BuyExecution
    ∷ pure_reader Instruction-F.RefundSurplus
    ∷ pure_reader (Instruction-F.SetErrorHandler [])
    ∷ pure_reader (Instruction-F.SetAppendix [])
    ∷ pure_reader Instruction-F.ClearError
    ∷ []

abbrev pub forms3 : Version → List (Reader Layer)
forms3 v = made2 (assets_at v) location_at Instruction-F.ClaimAsset
    ∷ made1 (below_at (2 ^ 64)) Instruction-F.Trap
    ∷ made2 (below_at (2 ^ 64)) weight_at Instruction-F.SubscribeVersion
    ∷ pure_reader Instruction-F.UnsubscribeVersion
    ∷ made1 (assets_at v) Instruction-F.BurnAsset
    ∷ made1 (assets_at v) Instruction-F.ExpectAsset
    ∷ made1 (optional_at location_at) Instruction-F.ExpectOrigin
    ∷ made1 (optional_at failure_at) Instruction-F.ExpectError
    ∷ []

abbrev pub forms4 : Version → List (Reader Layer)
forms4 v = made1 maybe_error_at Instruction-F.ExpectTransactStatus
    ∷ made2 (bytes_at 4294967295) query_info_at Instruction-F.QueryPallet
    ∷ made5 (below_at (2 ^ 32)) (bytes_at 4294967295) (bytes_at 4294967295) (below_at (2 ^ 32)) (below_at (2 ^ 32)) Instruction-F.ExpectPallet
    ∷ made1 query_info_at Instruction-F.ReportTransactStatus
    ∷ pure_reader Instruction-F.ClearTransactStatus
    ∷ made1 junction_at Instruction-F.UniversalOrigin
    ∷ made2 network_at junctions_at (λ net path. Instruction-F.ExportMessage net path [])
    ∷ made2 (asset_at v) location_at Instruction-F.LockAsset
    ∷ []

abbrev pub forms5 : Version → List (Reader Layer)
forms5 v = made2 (asset_at v) location_at Instruction-F.UnlockAsset
    ∷ made2 (asset_at v) location_at Instruction-F.NoteUnlockable
    ∷ made2 (asset_at v) location_at Instruction-F.RequestUnlock
    ∷ made1 flag_at Instruction-F.SetFeesMode
    ∷ made1 (take_at 32) Instruction-F.SetTopic
    ∷ pure_reader Instruction-F.ClearTopic
    ∷ made1 location_at Instruction-F.AliasOrigin
    ∷ made2 weight_limit_at (optional_at location_at) Instruction-F.UnpaidExecution
    ∷ []

-- ---- the form at an index

unfoldable pub group0_at : Version → ℕ → Reader Layer
group0_at v k = reader_by_index (forms0 v) k

unfoldable pub group1_at : Version → ℕ → Reader Layer
group1_at v k = reader_by_index (forms1 v) (k - 8)

unfoldable pub group2_at : Version → ℕ → Reader Layer
group2_at v k = reader_by_index (forms2 v) (k - 16)

unfoldable pub group3_at : Version → ℕ → Reader Layer
group3_at v k = reader_by_index (forms3 v) (k - 24)

unfoldable pub group4_at : Version → ℕ → Reader Layer
group4_at v k = reader_by_index (forms4 v) (k - 32)

unfoldable pub group5_at : Version → ℕ → Reader Layer
group5_at v k = reader_by_index (forms5 v) (k - 40)

-- no index from 48 on
unfoldable pub form_at : Version → ℕ → Reader Layer
form_at v k bytes =
    if nat_lt k 8 then group0_at v k bytes
    else (if nat_lt k 16 then group1_at v k bytes
    else (if nat_lt k 24 then group2_at v k bytes
    else (if nat_lt k 32 then group3_at v k bytes
    else (if nat_lt k 40 then group4_at v k bytes
    else (if nat_lt k 48 then group5_at v k bytes
    else None)))))

unfoldable pub head_at : Version → Reader Layer
head_at v bytes = u8_at bytes >>= λ k. form_at v k.0 k.1
