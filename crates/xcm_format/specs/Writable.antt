-- What no type keeps of a program that has a spelling in a version. Source: the XCM format: an asset id of version 4 is a location, one of
-- version 3 may be 32 bytes; a fungible asset has an amount above 0.
use Rattle.std.specs.Prelude.{◌<◌, ◌^◌, List, ⊤}
use Rattle.std.specs.List.{AllByRecursion}
use Rattle.operands.specs.declared.version.Version.{Version}
use Rattle.asset_wire.specs.Spelling.{IsNamed, AreNamed, IsFilterNamed}
use Rattle.operands.specs.declared.query.Response.{Response}
use Rattle.operands.specs.declared.query.Response.TheVariants as responses
use Rattle.xcm_program.specs.declared.instruction.Instruction.{Instruction}
use Rattle.xcm_program.specs.declared.instruction.Instruction.TheOpen.{Instruction-F}
use Rattle.xcm_program.specs.Measure.{deep_count}
use Rattle.xcm_program.specs.Everywhere.{Everywhere}
use Rattle.xcm_program.specs.Conversions.{HasAmounts}

-- the version can say the ids of the assets
abbrev pub IsResponseNamed : Version → Response → Type 0
IsResponseNamed v (responses.Assets list) = AreNamed v list
IsResponseNamed v _ = ⊤

-- the version can say each id
abbrev pub IsNamedHead : Version → (X : Type 0) → Instruction-F X → Type 0
IsNamedHead v X (Instruction-F.WithdrawAsset list) = AreNamed v list
IsNamedHead v X (Instruction-F.ReserveAssetDeposited list) = AreNamed v list
IsNamedHead v X (Instruction-F.ReceiveTeleportedAsset list) = AreNamed v list
IsNamedHead v X (Instruction-F.QueryResponse _ answer _ _) = IsResponseNamed v answer
IsNamedHead v X (Instruction-F.TransferAsset list _) = AreNamed v list
IsNamedHead v X (Instruction-F.TransferReserveAsset list _ _) = AreNamed v list
IsNamedHead v X (Instruction-F.DepositAsset taken _) = IsFilterNamed v taken
IsNamedHead v X (Instruction-F.DepositReserveAsset taken _ _) = IsFilterNamed v taken
IsNamedHead v X (Instruction-F.ExchangeAsset taken list _) = IsFilterNamed v taken × AreNamed v list
IsNamedHead v X (Instruction-F.InitiateReserveWithdraw taken _ _) = IsFilterNamed v taken
IsNamedHead v X (Instruction-F.InitiateTeleport taken _ _) = IsFilterNamed v taken
IsNamedHead v X (Instruction-F.ReportHolding _ taken) = IsFilterNamed v taken
IsNamedHead v X (Instruction-F.BuyExecution fees _) = IsNamed v fees.id
IsNamedHead v X (Instruction-F.ClaimAsset list _) = AreNamed v list
IsNamedHead v X (Instruction-F.BurnAsset list) = AreNamed v list
IsNamedHead v X (Instruction-F.ExpectAsset list) = AreNamed v list
IsNamedHead v X (Instruction-F.LockAsset goods _) = IsNamed v goods.id
IsNamedHead v X (Instruction-F.UnlockAsset goods _) = IsNamed v goods.id
IsNamedHead v X (Instruction-F.NoteUnlockable goods _) = IsNamed v goods.id
IsNamedHead v X (Instruction-F.RequestUnlock goods _) = IsNamed v goods.id
IsNamedHead v X _ = ⊤

-- the version can say each id, at any depth
abbrev pub IsNamedOne : Version → Instruction → Type 0
IsNamedOne v = Everywhere (IsNamedHead v)

-- what a caller that writes a program has to ensure; the types ensure the other bounds
pub record IsWritable (v : Version) (program : List Instruction) : Type 0 where
  pub few : deep_count program < 2 ^ 32
  pub named : AllByRecursion (IsNamedOne v) program
  pub amounts : AllByRecursion HasAmounts program
