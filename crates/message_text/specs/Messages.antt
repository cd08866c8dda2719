-- A message as a tree: a line for each instruction with its name, one level deeper a line for each of its fields in the order of the XCM
-- format, and below `xcm` the program inside. This project's own rule; the names are the XCM format's.
use Rattle.std.specs.Prelude.{ℕ, ◌+◌, List, [], ◌∷◌, ◌++◌, Option, Some, None, codes, decimal, map}
use Rattle.scale_codec.specs.Spelling.{joined}
use Rattle.locations.specs.declared.relative.Location.{Location}
use Rattle.location_wire.specs.Texts.{hex_text, location_text, path_text}
use Rattle.operands.specs.Texts.{weight_text}
use Rattle.xcm_program.specs.Measure.{inner}
use Rattle.xcm_program.specs.Texts.{instruction_name}
use Rattle.xcm_program.specs.declared.instruction.Instruction.{Instruction, fold-Instruction}
use Rattle.xcm_program.specs.declared.instruction.Instruction.TheOpen.{Instruction-F}
use Rattle.message_text.specs.declared.names.FieldName.{FieldName}
use Rattle.message_text.specs.declared.names.FieldName.TheVariants as names
use Rattle.message_text.specs.Names.{name_text}
use Rattle.message_text.specs.Lines.{line, field}
use Rattle.message_text.specs.Words.{flag_text, origin_kind_text, limit_text, status_text, place_text, failure_text, junction_path_text, network_text, asset_text}
use Rattle.message_text.specs.Fields.{assets_field, filter_field, info_field, response_field}

-- ---- fields that many instructions have

abbrev pub location_field : ℕ → FieldName → Location → List ℕ
location_field level name place = field level name (location_text place)

abbrev pub number_field : ℕ → FieldName → ℕ → List ℕ
number_field level name n = field level name (decimal n)

abbrev pub bytes_field : ℕ → FieldName → List ℕ → List ℕ
bytes_field level name bytes = field level name (hex_text bytes)

-- ---- an instruction without the program inside

-- its fields, but for the program inside
unfoldable pub own_fields : {X : Type 0} → ℕ → Instruction-F X → List ℕ
own_fields n (Instruction-F.WithdrawAsset list) = assets_field n names.Assets list
own_fields n (Instruction-F.ReserveAssetDeposited list) = assets_field n names.Assets list
own_fields n (Instruction-F.ReceiveTeleportedAsset list) = assets_field n names.Assets list
own_fields n (Instruction-F.QueryResponse id answer w asker) =
    number_field n names.QueryId id ++ (response_field n answer
    ++ (field n names.MaxWeight (weight_text w) ++ field n names.Querier (place_text asker)))
own_fields n (Instruction-F.TransferAsset list place) =
    assets_field n names.Assets list ++ location_field n names.Beneficiary place
own_fields n (Instruction-F.TransferReserveAsset list place _) =
    assets_field n names.Assets list ++ location_field n names.Dest place
own_fields n (Instruction-F.Transact kind w call) =
    field n names.OriginKind (origin_kind_text kind)
    ++ (field n names.RequireWeightAtMost (weight_text w) ++ bytes_field n names.Call call)
own_fields n (Instruction-F.HrmpNewChannelOpenRequest sender size capacity) =
    number_field n names.Sender sender ++ (number_field n names.MaxMessageSize size
    ++ number_field n names.MaxCapacity capacity)
own_fields n (Instruction-F.HrmpChannelAccepted recipient) =
    number_field n names.Recipient recipient
own_fields n (Instruction-F.HrmpChannelClosing initiator sender recipient) =
    number_field n names.Initiator initiator ++ (number_field n names.Sender sender
    ++ number_field n names.Recipient recipient)
own_fields n Instruction-F.ClearOrigin = []
own_fields n (Instruction-F.DescendOrigin path) = field n names.Interior (path_text path)
own_fields n (Instruction-F.ReportError query) = info_field n query
own_fields n (Instruction-F.DepositAsset taken place) =
    filter_field n names.Assets taken ++ location_field n names.Beneficiary place
own_fields n (Instruction-F.DepositReserveAsset taken place _) =
    filter_field n names.Assets taken ++ location_field n names.Dest place
own_fields n (Instruction-F.ExchangeAsset taken list maximal) =
    filter_field n names.Give taken ++ (assets_field n names.Want list
    ++ field n names.Maximal (flag_text maximal))
own_fields n (Instruction-F.InitiateReserveWithdraw taken place _) =
    filter_field n names.Assets taken ++ location_field n names.Reserve place
own_fields n (Instruction-F.InitiateTeleport taken place _) =
    filter_field n names.Assets taken ++ location_field n names.Dest place
own_fields n (Instruction-F.ReportHolding query taken) =
    info_field n query ++ filter_field n names.Assets taken
own_fields n (Instruction-F.BuyExecution fees most) =
    field n names.Fees (asset_text fees) ++ field n names.Limit (limit_text most)
own_fields n Instruction-F.RefundSurplus = []
own_fields n (Instruction-F.SetErrorHandler _) = []
own_fields n (Instruction-F.SetAppendix _) = []
own_fields n Instruction-F.ClearError = []
own_fields n (Instruction-F.ClaimAsset list place) =
    assets_field n names.Assets list ++ location_field n names.Ticket place
own_fields n (Instruction-F.Trap code) = number_field n names.Code code
own_fields n (Instruction-F.SubscribeVersion id w) =
    number_field n names.QueryId id ++ field n names.MaxResponseWeight (weight_text w)
own_fields n Instruction-F.UnsubscribeVersion = []
own_fields n (Instruction-F.BurnAsset list) = assets_field n names.Assets list
own_fields n (Instruction-F.ExpectAsset list) = assets_field n names.Assets list
own_fields n (Instruction-F.ExpectOrigin place) = field n names.Origin (place_text place)
own_fields n (Instruction-F.ExpectError failed) = field n names.Error (failure_text failed)
own_fields n (Instruction-F.ExpectTransactStatus status) =
    field n names.Status (status_text status)
own_fields n (Instruction-F.QueryPallet text query) =
    bytes_field n names.ModuleName text ++ info_field n query
own_fields n (Instruction-F.ExpectPallet place text module_text major minor) =
    number_field n names.Index place ++ (bytes_field n names.Name text
    ++ (bytes_field n names.ModuleName module_text
    ++ (number_field n names.CrateMajor major ++ number_field n names.MinCrateMinor minor)))
own_fields n (Instruction-F.ReportTransactStatus query) = info_field n query
own_fields n Instruction-F.ClearTransactStatus = []
own_fields n (Instruction-F.UniversalOrigin step) = field n names.Junction (junction_path_text step)
own_fields n (Instruction-F.ExportMessage net path _) =
    field n names.Network (network_text net) ++ field n names.Destination (path_text path)
own_fields n (Instruction-F.LockAsset goods place) =
    field n names.Asset (asset_text goods) ++ location_field n names.Unlocker place
own_fields n (Instruction-F.UnlockAsset goods place) =
    field n names.Asset (asset_text goods) ++ location_field n names.Target place
own_fields n (Instruction-F.NoteUnlockable goods place) =
    field n names.Asset (asset_text goods) ++ location_field n names.Owner place
own_fields n (Instruction-F.RequestUnlock goods place) =
    field n names.Asset (asset_text goods) ++ location_field n names.Locker place
own_fields n (Instruction-F.SetFeesMode jit_withdraw) =
    field n names.JitWithdraw (flag_text jit_withdraw)
own_fields n (Instruction-F.SetTopic topic) = bytes_field n names.Topic topic
own_fields n Instruction-F.ClearTopic = []
own_fields n (Instruction-F.AliasOrigin place) = location_field n names.Target place
own_fields n (Instruction-F.UnpaidExecution most place) =
    field n names.Limit (limit_text most) ++ field n names.CheckOrigin (place_text place)

-- ---- programs

-- the program inside below its name, by the texts of its instructions as functions of their level
abbrev pub nested_at : ℕ → Option (List (ℕ → List ℕ)) → List ℕ
nested_at level None = []
nested_at level (Some texts) =
    line level (name_text names.Xcm) ++ joined (map (λ (text : ℕ → List ℕ). text (level + 1)) texts)

-- its name, its fields one level deeper, and the program inside
unfoldable pub instruction_text : Instruction → ℕ → List ℕ
instruction_text =
    fold-Instruction (ℕ → List ℕ) (λ l level. line level (instruction_name l)
    ++ (own_fields (level + 1) l ++ nested_at (level + 1) (inner l)))

-- one instruction after the other
abbrev pub program_text : ℕ → List Instruction → List ℕ
program_text level program = joined (map (λ i. instruction_text i level) program)
