-- The names of instructions by their indices, the order of the XCM format. That they are the names of the instructions is a law of
-- step_text, `law_of_names_by_number`.
use Rattle.std.specs.Prelude.{ℕ, List, [], ◌∷◌, get_or, codes}

-- in the order of their indices, from 0
abbrev pub names : List (List ℕ)
names = codes "WithdrawAsset"
    ∷ codes "ReserveAssetDeposited"
    ∷ codes "ReceiveTeleportedAsset"
    ∷ codes "QueryResponse"
    ∷ codes "TransferAsset"
    ∷ codes "TransferReserveAsset"
    ∷ codes "Transact"
    ∷ codes "HrmpNewChannelOpenRequest"
    ∷ codes "HrmpChannelAccepted"
    ∷ codes "HrmpChannelClosing"
    ∷ codes "ClearOrigin"
    ∷ codes "DescendOrigin"
    ∷ codes "ReportError"
    ∷ codes "DepositAsset"
    ∷ codes "DepositReserveAsset"
    ∷ codes "ExchangeAsset"
    ∷ codes "InitiateReserveWithdraw"
    ∷ codes "InitiateTeleport"
    ∷ codes "ReportHolding"
    ∷ codes "BuyExecution"
    ∷ codes "RefundSurplus"
    ∷ codes "SetErrorHandler"
    ∷ codes "SetAppendix"
    ∷ codes "ClearError"
    ∷ codes "ClaimAsset"
    ∷ codes "Trap"
    ∷ codes "SubscribeVersion"
    ∷ codes "UnsubscribeVersion"
    ∷ codes "BurnAsset"
    ∷ codes "ExpectAsset"
    ∷ codes "ExpectOrigin"
    ∷ codes "ExpectError"
    ∷ codes "ExpectTransactStatus"
    ∷ codes "QueryPallet"
    ∷ codes "ExpectPallet"
    ∷ codes "ReportTransactStatus"
    ∷ codes "ClearTransactStatus"
    ∷ codes "UniversalOrigin"
    ∷ codes "ExportMessage"
    ∷ codes "LockAsset"
    ∷ codes "UnlockAsset"
    ∷ codes "NoteUnlockable"
    ∷ codes "RequestUnlock"
    ∷ codes "SetFeesMode"
    ∷ codes "SetTopic"
    ∷ codes "ClearTopic"
    ∷ codes "AliasOrigin"
    ∷ codes "UnpaidExecution"
    ∷ []

-- the name of the instruction with this index, empty where there is none
unfoldable pub instruction_name_at : ℕ → List ℕ
instruction_name_at index = get_or names index []
