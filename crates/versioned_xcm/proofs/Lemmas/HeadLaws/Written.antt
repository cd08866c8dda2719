-- An instruction that has a spelling in a version can be written in it.
use Rattle.operands.specs.declared.version.Version.{Version}
use Rattle.asset_wire.proofs.Lemmas.Written.{asset_writable, assets_named, filter_named}
use Rattle.xcm_format.proofs.Lemmas.OperandLaws.Written.{response_named}
use Rattle.xcm_program.specs.declared.instruction.Instruction.TheOpen.{Instruction-F}
use Rattle.xcm_format.specs.Programs.{FitsHead}
use Rattle.xcm_program.specs.Conversions.{HasAmount}
use Rattle.xcm_format.specs.Writable.{IsNamedHead}

pub head_named : {X : Type 0} (v : Version) (l : Instruction-F X) → FitsHead v l → IsNamedHead v X l
head_named v (Instruction-F.WithdrawAsset list) fits = assets_named v list fits
head_named v (Instruction-F.ReserveAssetDeposited list) fits = assets_named v list fits
head_named v (Instruction-F.ReceiveTeleportedAsset list) fits = assets_named v list fits
head_named v (Instruction-F.QueryResponse _ answer _ _) fits = response_named v answer fits.1
head_named v (Instruction-F.TransferAsset list _) fits = assets_named v list fits.0
head_named v (Instruction-F.TransferReserveAsset list _ _) fits = assets_named v list fits.0
head_named v (Instruction-F.DepositAsset taken _) fits = filter_named v taken fits.0
head_named v (Instruction-F.DepositReserveAsset taken _ _) fits = filter_named v taken fits.0
head_named v (Instruction-F.ExchangeAsset taken list _) fits = (filter_named v taken fits.0, assets_named v list fits.1)
head_named v (Instruction-F.InitiateReserveWithdraw taken _ _) fits = filter_named v taken fits.0
head_named v (Instruction-F.InitiateTeleport taken _ _) fits = filter_named v taken fits.0
head_named v (Instruction-F.ReportHolding _ taken) fits = filter_named v taken fits.1
head_named v (Instruction-F.BuyExecution fees _) fits = (asset_writable v fees fits.0).0
head_named v (Instruction-F.ClaimAsset list _) fits = assets_named v list fits.0
head_named v (Instruction-F.BurnAsset list) fits = assets_named v list fits
head_named v (Instruction-F.ExpectAsset list) fits = assets_named v list fits
head_named v (Instruction-F.LockAsset goods _) fits = (asset_writable v goods fits.0).0
head_named v (Instruction-F.UnlockAsset goods _) fits = (asset_writable v goods fits.0).0
head_named v (Instruction-F.NoteUnlockable goods _) fits = (asset_writable v goods fits.0).0
head_named v (Instruction-F.RequestUnlock goods _) fits = (asset_writable v goods fits.0).0
head_named v _ fits = tt

pub head_amount : {X : Type 0} (v : Version) (l : Instruction-F X) → FitsHead v l → HasAmount X l
head_amount v (Instruction-F.BuyExecution fees _) fits = (asset_writable v fees fits.0).1
head_amount v (Instruction-F.LockAsset goods _) fits = (asset_writable v goods fits.0).1
head_amount v (Instruction-F.UnlockAsset goods _) fits = (asset_writable v goods fits.0).1
head_amount v (Instruction-F.NoteUnlockable goods _) fits = (asset_writable v goods fits.0).1
head_amount v (Instruction-F.RequestUnlock goods _) fits = (asset_writable v goods fits.0).1
head_amount v _ fits = tt
