-- Why an instruction makes a call where it does, and what relates two machines that calls lead from and to. This project's own
-- vocabulary.
use Rattle.std.specs.List.{AllByRecursion}
use Rattle.std.specs.Prelude.{◌≡◌, ◌⊎◌, ⊤, ℕ, Bool, true, false, IsTrue, List, [], ◌∷◌, Option, Some, None}
use Rattle.amounts.specs.Amounts.{empty, IsWithin}
use Rattle.locations.specs.declared.grammar.Junction.{Junction}
use Rattle.locations.specs.declared.relative.Location.{Location}
use Rattle.operands.specs.declared.error.XcmError.{XcmError}
use Rattle.operands.specs.declared.error.XcmError.TheVariants as error
use Rattle.operands.specs.declared.query.QueryInfo.{QueryInfo}
use Rattle.operands.specs.declared.weight.Weight.{Weight}
use Rattle.operands.specs.declared.weight.WeightLimit.TheVariants.{Limited}
use Rattle.asset_lists.specs.declared.units.Asset.{Asset}
use Rattle.asset_lists.specs.declared.filters.Filter.{Filter}
use Rattle.asset_bundles.specs.declared.shipment.Way.{Way}
use Rattle.trust_tables.specs.Accounts.{account_of}
use Rattle.xcm_program.specs.declared.instruction.Instruction.{Instruction}
use Rattle.xcm_program.specs.declared.instruction.Instruction.TheOpen.{Instruction-F}
use Rattle.exec_base.specs.declared.registers.Registers.{Registers}
use Rattle.exec_base.specs.Host.{fee_to}
use Rattle.exec_rules.specs.Machine.{Machine}
use Rattle.exec_rules.specs.Holdings.{with_holding, payment_of, not_refunded}
use Rattle.exec_rules.specs.Origins.{descended}
use Rattle.exec_rules.specs.HostCalls.{MachineWithGoods, between, MachineCall, after, after_all, refusal_along}

-- what no call of an instruction changes: the registers, but for the holding, and what the network document says of the chain
pub record IsFrom (m : Machine) (t : MachineWithGoods) : Type 0 where
  pub regs : t.regs ≡ with_holding m.regs t.regs.holding
  pub settings : t.part.settings ≡ m.part.settings

-- the origin register stays, is emptied, or goes to a location below the one that it holds
abbrev pub TurnsOrigin : Option Location → Option Location → Type 0
TurnsOrigin old new = (new ≡ old) ⊎ (new ≡ None) ⊎ ((who : Location) × (path : List Junction) × (old ≡ Some who) × (new ≡ Some (descended who path)))

-- other registers; the holding stays
pub record Turns (old new : Registers) : Type 0 where
  pub holding : new.holding ≡ old.holding
  pub origin : TurnsOrigin old.origin new.origin

-- the errors that an instruction answers by a test of its own, and not by a call of the host
abbrev pub is_test_error : XcmError → Bool
is_test_error error.Unimplemented = true
is_test_error error.LocationFull = true
is_test_error error.BadOrigin = true
is_test_error error.InvalidLocation = true
is_test_error error.ExceedsMaxMessageSize = true
is_test_error error.Unroutable = true
is_test_error error.UnknownClaim = true
is_test_error error.FailedToDecode = true
is_test_error (error.Trap code) = true
is_test_error error.ExpectationFalse = true
is_test_error error.PalletNotFound = true
is_test_error error.NameMismatch = true
is_test_error error.VersionIncompatible = true
is_test_error error.HoldingWouldOverflow = true
is_test_error error.ReanchorFailed = true
is_test_error error.NoDeal = true
is_test_error error.LockError = true
is_test_error error.NoPermission = true
is_test_error error.MaxWeightInvalid = true
is_test_error _ = false

abbrev pub HasNone : MachineWithGoods → Type 0
HasNone t = t.goods ≡ empty

-- nothing was asked before, but tests
abbrev pub IsFirstCall : Machine → MachineWithGoods → Type 0
IsFirstCall m t = t ≡ between m

-- for whom the instruction speaks
abbrev pub Speaks : Machine → Location → Type 0
Speaks m who = m.regs.origin ≡ Some who

-- nothing was sent before
abbrev pub IsUnsent : Machine → MachineWithGoods → Type 0
IsUnsent m t = t.part.channels ≡ m.part.channels

-- what is in hand is part of what was held at first
abbrev pub HasTaken : Machine → MachineWithGoods → Type 0
HasTaken m t = IsWithin t.goods m.regs.holding

-- where an instruction sends to; all others send nothing
abbrev pub destination : Instruction-F Instruction → Option Location
destination (Instruction-F.TransferReserveAsset list dest xcm) = Some dest
destination (Instruction-F.DepositReserveAsset filter dest xcm) = Some dest
destination (Instruction-F.InitiateReserveWithdraw filter dest xcm) = Some dest
destination (Instruction-F.InitiateTeleport filter dest xcm) = Some dest
destination (Instruction-F.ReportError info) = Some info.destination
destination (Instruction-F.ReportHolding info filter) = Some info.destination
destination (Instruction-F.QueryPallet name info) = Some info.destination
destination (Instruction-F.ReportTransactStatus info) = Some info.destination
destination (Instruction-F.LockAsset asset unlocker) = Some unlocker
destination (Instruction-F.RequestUnlock asset locker) = Some locker
destination _ = None

-- the delivery fee of the channel that it sends on
abbrev pub IsFee : Instruction-F Instruction → Machine → Asset → Type 0
IsFee l m a = (dest : Location) × (destination l ≡ Some dest) × (fee_to m.part dest ≡ Some a)

abbrev pub arriving : List Asset → Bool → Instruction-F Instruction
arriving list false = Instruction-F.ReserveAssetDeposited list
arriving list true = Instruction-F.ReceiveTeleportedAsset list

abbrev pub shipping : Way → Filter → Location → List Instruction → Instruction-F Instruction
shipping Way.Withdrawal filter dest xcm = Instruction-F.InitiateReserveWithdraw filter dest xcm
shipping Way.Teleport filter dest xcm = Instruction-F.InitiateTeleport filter dest xcm

-- it reports where that info says
abbrev pub IsReport : Instruction-F Instruction → QueryInfo → Type 0
IsReport (Instruction-F.ReportError to) info = to ≡ info
IsReport (Instruction-F.ReportHolding to filter) info = to ≡ info
IsReport (Instruction-F.QueryPallet name to) info = to ≡ info
IsReport (Instruction-F.ReportTransactStatus to) info = to ≡ info
IsReport l info = ⊥

abbrev pub IsTransact : Instruction-F Instruction → Type 0
IsTransact (Instruction-F.Transact kind most bytes) = ⊤
IsTransact l = ⊥

-- the account of the location that the instruction speaks for
abbrev pub SpeaksBy : Machine → List ℕ → Type 0
SpeaksBy m account = (who : Location) × Speaks m who × (account_of who m.part.site ≡ Some account)

-- when a call is asked: inside an instruction, or at the end of a run
pub data Moment : Type 0 where
  Inside : Moment
  AtEnd : Moment

-- why a call is asked where an instruction that began at the machine has come to; what only the end of a run asks has none inside one
abbrev pub HasReason : Moment → Instruction-F Instruction → Machine → MachineWithGoods → MachineCall → Type 0
HasReason moment l m t (MachineCall.Check ok e) = IsTrue (is_test_error e)
HasReason moment l m t (MachineCall.Take filter) = HasNone t
HasReason moment l m t (MachineCall.Pay a) = IsFirstCall m t × (IsFee l m a ⊎ ((w : Weight) × (l ≡ Instruction-F.BuyExecution a (Limited w))))
HasReason moment l m t MachineCall.Join = ⊤
HasReason moment l m t (MachineCall.Withdraw list who) = IsFirstCall m t × Speaks m who × (l ≡ Instruction-F.WithdrawAsset list)
HasReason moment l m t (MachineCall.Draw fee who) = IsFirstCall m t × Speaks m who × IsFee l m fee
HasReason moment l m t (MachineCall.Receive list from teleport) = IsFirstCall m t × (from ≡ m.regs.origin) × (l ≡ arriving list teleport)
HasReason moment l m t (MachineCall.Claim list who) = IsFirstCall m t × Speaks m who × ((ticket : Location) × (l ≡ Instruction-F.ClaimAsset list ticket))
HasReason moment l m t (MachineCall.Refund w) = IsFirstCall m t × (w ≡ not_refunded m)
HasReason moment l m t (MachineCall.Deposit who) = (filter : Filter) × (l ≡ Instruction-F.DepositAsset filter who)
HasReason moment l m t MachineCall.Burn = (list : List Asset) × (l ≡ Instruction-F.BurnAsset list)
HasReason moment l m t (MachineCall.Buy w) = (fees : Asset) × (l ≡ Instruction-F.BuyExecution fees (Limited w)) × (t ≡ after (MachineCall.Pay fees) (between m))
HasReason moment l m t (MachineCall.Exchange want maximal) =
    (filter : Filter) × (l ≡ Instruction-F.ExchangeAsset filter want maximal)
    × (t ≡ after (MachineCall.Take filter) (between m))
HasReason moment l m t (MachineCall.DepositOut dest xcm) = IsUnsent m t × HasTaken m t × ((filter : Filter) × (l ≡ Instruction-F.DepositReserveAsset filter dest xcm))
HasReason moment l m t (MachineCall.Ship way dest xcm) = IsUnsent m t × HasTaken m t × ((filter : Filter) × (l ≡ shipping way filter dest xcm))
HasReason moment l m t (MachineCall.Transfer list from to) = IsFirstCall m t × Speaks m from × (l ≡ Instruction-F.TransferAsset list to)
HasReason moment l m t (MachineCall.TransferOut list from dest xcm) = IsUnsent m t × Speaks m from × (l ≡ Instruction-F.TransferReserveAsset list dest xcm)
HasReason moment l m t (MachineCall.Respond info answer querier) = IsUnsent m t × (querier ≡ m.regs.origin) × IsReport l info
HasReason moment l m t (MachineCall.Answer from query) = IsFirstCall m t × Speaks m from
HasReason moment l m t (MachineCall.Dispatch account c) = IsFirstCall m t × SpeaksBy m account × IsTransact l
HasReason moment l m t (MachineCall.KeepBack e) = IsTransact l
HasReason moment l m t (MachineCall.Lock a owner unlocker) = IsUnsent m t × Speaks m owner × (l ≡ Instruction-F.LockAsset a unlocker)
HasReason moment l m t (MachineCall.Unlock a target from) = Speaks m from × (l ≡ Instruction-F.UnlockAsset a target)
HasReason moment l m t (MachineCall.Note a owner from) = Speaks m from × (l ≡ Instruction-F.NoteUnlockable a owner)
HasReason moment l m t (MachineCall.Request a owner locker) = IsUnsent m t × Speaks m owner × (l ≡ Instruction-F.RequestUnlock a locker)
HasReason moment l m t MachineCall.HoldFee = (fee : Asset) × IsFee l m fee × (t.goods ≡ payment_of fee) × (t.part.fee_slot ≡ m.part.fee_slot)
HasReason moment l m t MachineCall.TakeFee = HasNone t
HasReason moment l m t MachineCall.KeepFee = ⊤
HasReason moment l m t MachineCall.Park = t.part.parked ≡ m.part.parked
HasReason moment l m t MachineCall.Empty = (moment ≡ Moment.AtEnd) × HasNone t
HasReason moment l m t (MachineCall.Tell e) = (moment ≡ Moment.AtEnd) × HasNone t
HasReason moment l m t MachineCall.Settle = (moment ≡ Moment.AtEnd) × HasNone t
HasReason moment l m t (MachineCall.Trap who) = moment ≡ Moment.AtEnd

-- each of some calls, one after the other
abbrev pub HaveReasons : Instruction-F Instruction → Machine → List MachineCall → MachineWithGoods → Type 0
HaveReasons l m [] t = ⊤
HaveReasons l m (c ∷ cs) t = HasReason Moment.Inside l m t c × HaveReasons l m cs (after c t)

-- what may have been asked where memory stops an instruction: goods came, or were taken out, and are put aside, or a prefix of a call's batch was
-- done; nothing else is changed yet
abbrev pub ComesBeforeStop : MachineCall → Type 0
ComesBeforeStop MachineCall.Join = ⊥
ComesBeforeStop (MachineCall.Deposit who) = ⊥
ComesBeforeStop MachineCall.Burn = ⊥
ComesBeforeStop (MachineCall.DepositOut dest xcm) = ⊥
ComesBeforeStop (MachineCall.Ship way dest xcm) = ⊥
ComesBeforeStop (MachineCall.Transfer list from to) = ⊥
ComesBeforeStop (MachineCall.TransferOut list from dest xcm) = ⊥
ComesBeforeStop (MachineCall.Respond info answer querier) = ⊥
ComesBeforeStop (MachineCall.Answer from query) = ⊥
ComesBeforeStop (MachineCall.KeepBack e) = ⊥
ComesBeforeStop (MachineCall.Lock a owner unlocker) = ⊥
ComesBeforeStop (MachineCall.Unlock a target from) = ⊥
ComesBeforeStop (MachineCall.Note a owner from) = ⊥
ComesBeforeStop (MachineCall.Request a owner locker) = ⊥
ComesBeforeStop MachineCall.KeepFee = ⊥
ComesBeforeStop _ = ⊤

-- accepted calls of an instruction that began at the first machine lead from where it has come to, to another machine, where memory stops it
pub record IsLedFrom (l : Instruction-F Instruction) (m : Machine) (t : MachineWithGoods) (now : Machine) : Type 0 where
  pub made : List MachineCall
  pub asked : HaveReasons l m made t
  pub early : AllByRecursion ComesBeforeStop made
  pub free : refusal_along made t ≡ None
  pub there : between now ≡ after_all made t

abbrev pub IsLedTo : Instruction-F Instruction → Machine → Machine → Type 0
IsLedTo l m now = IsLedFrom l m (between m) now
