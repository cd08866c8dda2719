-- The number of each instruction. This project's own profile of versions 3 and 4 of the XCM format: both have the same 48 instructions
-- with the same numbers.
use Rattle.std.specs.Prelude.{ℕ}
use Rattle.xcm_program.specs.declared.instruction.Instruction.TheOpen.{Instruction-F}

-- the index that an instruction's spelling begins with
abbrev pub index : {X : Type 0} → Instruction-F X → ℕ
index (Instruction-F.WithdrawAsset _) = 0
index (Instruction-F.ReserveAssetDeposited _) = 1
index (Instruction-F.ReceiveTeleportedAsset _) = 2
index (Instruction-F.QueryResponse _ _ _ _) = 3
index (Instruction-F.TransferAsset _ _) = 4
index (Instruction-F.TransferReserveAsset _ _ _) = 5
index (Instruction-F.Transact _ _ _) = 6
index (Instruction-F.HrmpNewChannelOpenRequest _ _ _) = 7
index (Instruction-F.HrmpChannelAccepted _) = 8
index (Instruction-F.HrmpChannelClosing _ _ _) = 9
index Instruction-F.ClearOrigin = 10
index (Instruction-F.DescendOrigin _) = 11
index (Instruction-F.ReportError _) = 12
index (Instruction-F.DepositAsset _ _) = 13
index (Instruction-F.DepositReserveAsset _ _ _) = 14
index (Instruction-F.ExchangeAsset _ _ _) = 15
index (Instruction-F.InitiateReserveWithdraw _ _ _) = 16
index (Instruction-F.InitiateTeleport _ _ _) = 17
index (Instruction-F.ReportHolding _ _) = 18
index (Instruction-F.BuyExecution _ _) = 19
index Instruction-F.RefundSurplus = 20
index (Instruction-F.SetErrorHandler _) = 21
index (Instruction-F.SetAppendix _) = 22
index Instruction-F.ClearError = 23
index (Instruction-F.ClaimAsset _ _) = 24
index (Instruction-F.Trap _) = 25
index (Instruction-F.SubscribeVersion _ _) = 26
index Instruction-F.UnsubscribeVersion = 27
index (Instruction-F.BurnAsset _) = 28
index (Instruction-F.ExpectAsset _) = 29
index (Instruction-F.ExpectOrigin _) = 30
index (Instruction-F.ExpectError _) = 31
index (Instruction-F.ExpectTransactStatus _) = 32
index (Instruction-F.QueryPallet _ _) = 33
index (Instruction-F.ExpectPallet _ _ _ _ _) = 34
index (Instruction-F.ReportTransactStatus _) = 35
index Instruction-F.ClearTransactStatus = 36
index (Instruction-F.UniversalOrigin _) = 37
index (Instruction-F.ExportMessage _ _ _) = 38
index (Instruction-F.LockAsset _ _) = 39
index (Instruction-F.UnlockAsset _ _) = 40
index (Instruction-F.NoteUnlockable _ _) = 41
index (Instruction-F.RequestUnlock _ _) = 42
index (Instruction-F.SetFeesMode _) = 43
index (Instruction-F.SetTopic _) = 44
index Instruction-F.ClearTopic = 45
index (Instruction-F.AliasOrigin _) = 46
index (Instruction-F.UnpaidExecution _ _) = 47
