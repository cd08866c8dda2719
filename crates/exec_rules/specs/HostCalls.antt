-- What each of the 48 instructions asks of the chain, call by call. This project's own vocabulary; that it says the same as the rules of
-- the instructions is a law.
--
--   midway      a machine inside an instruction, with the goods that were taken from somewhere and aren't put anywhere yet
--   call        one thing that is asked of the chain's host, or done to the holding
--   why_not     why it is refused, or none
--   after       what it leaves. It is written field by field: what isn't named stays
--   calls       those of an instruction, in order; the first refusal is the instruction's
--   turned      what the instruction does to the other registers, at its end
use Rattle.std.specs.Prelude.{ℕ, ◌||◌, nat_le, not, is_some, Bool, true, false, if◌then◌else◌, length, List, [], ◌∷◌, ◌++◌, Option, Some, None}
use Rattle.amounts.specs.Amounts.{empty, difference}
use Rattle.locations.specs.declared.grammar.Junction.{Junction}
use Rattle.locations.specs.declared.relative.Location.{Location}
use Rattle.operands.specs.declared.error.XcmError.{XcmError}
use Rattle.operands.specs.declared.error.XcmError.TheVariants as error
use Rattle.operands.specs.declared.pallet.PalletInfo.{PalletInfo}
use Rattle.operands.specs.declared.origin.OriginKind.{OriginKind}
use Rattle.operands.specs.declared.query.QueryInfo.{QueryInfo}
use Rattle.operands.specs.declared.query.Response.{Response}
use Rattle.operands.specs.declared.query.Response.TheVariants as response
use Rattle.operands.specs.declared.status.MaybeError.TheVariants.{Success}
use Rattle.operands.specs.declared.weight.Weight.{Weight}
use Rattle.operands.specs.declared.weight.WeightLimit.{WeightLimit}
use Rattle.operands.specs.declared.weight.WeightLimit.TheVariants.{Unlimited, Limited}
use Rattle.asset_lists.specs.declared.units.Asset.{Asset}
use Rattle.asset_lists.specs.declared.filters.Filter.{Filter}
use Rattle.asset_lists.specs.declared.filters.Filter.TheVariants.{Definite}
use Rattle.asset_bundles.specs.Bundles.{Bundle, bundle_of}
use Rattle.asset_bundles.specs.Filters.{Taken, Left}
use Rattle.asset_bundles.specs.Joins.{Joined}
use Rattle.asset_bundles.specs.declared.shipment.Way.{Way}
use Rattle.xcm_program.specs.declared.instruction.Instruction.{Instruction}
use Rattle.xcm_program.specs.declared.instruction.Instruction.TheOpen.{Instruction-F}
use Rattle.operands.specs.Weights.{is_within}
use Rattle.call_dispatch.specs.Spelling.{AnyCall}
use Rattle.exec_base.specs.declared.event.Event.{Event}
use Rattle.exec_base.specs.declared.registers.Registers.{Registers}
use Rattle.exec_base.specs.Part.{ChainPart}
use Rattle.exec_base.specs.Sending.{unless, or_else, channel_to_location}
use Rattle.exec_base.specs.Host.{withdraw_refusal, withdrawn, deposit_refusal, deposited, transfer_refusal, transferred, receive_refusal, received, transfer_out_refusal, transferred_out, deposit_out_refusal, deposited_out, ship_refusal, shipped, querier_seen, respond_refusal, responded, answered, buy_refusal, unspent, bought, refund_goods, refunded, bundles_joined, burnt, claim_refusal, claimed, trapped, parked, settled, lock_refusal, asset_locked, unlock_refusal, asset_unlocked, note_refusal, asset_noted, request_refusal, asset_requested, fee_to, fee_kept, fee_drawn, told}
use Rattle.exec_base.specs.Calls.{held_dispatched, call_line, dispatch_end}
use Rattle.exec_base.specs.Pools.{exchange_refusal, exchanged, exchange_goods}
use Rattle.exec_rules.specs.Machine.{Machine, machine, weight_added}
use Rattle.exec_rules.specs.Holdings.{with_origin, with_holding, has_room, holds_asset, holds_list, payment_of, is_ticket, not_refunded, refund_now, holds_some}
use Rattle.exec_rules.specs.Fees.{after_fee}
use Rattle.exec_rules.specs.Reports.{pallets_of, reported_list}
use Rattle.exec_rules.specs.Origins.{same_origin, is_original, is_checked_origin, fits_below, descended, is_own_network}
use Rattle.exec_rules.specs.Programs.{with_handler, with_appendix}
use Rattle.exec_rules.specs.Calls.{call_in, caller_in, call_weight, spare_weight, status_of}
use Rattle.exec_rules.specs.Expectations.{same_failure, same_status, has_names, has_version, pallet_at}

-- ---- inside an instruction
pub record MachineWithGoods : Type 0 where
  pub regs : Registers
  pub part : ChainPart
  pub goods : Bundle

-- between two instructions nothing is in hand
abbrev pub between : Machine → MachineWithGoods
between m = record { regs = m.regs; part = m.part; goods = empty }

abbrev pub here : MachineWithGoods → Machine
here t = machine t.regs t.part

-- ---- calls
pub data MachineCall : Type 0 where
  -- a test of the instruction's own, and what it answers where that fails
  Check : Bool → XcmError → MachineCall
  -- out of the holding, and into it
  Take : Filter → MachineCall
  Pay : Asset → MachineCall
  Join : MachineCall
  -- the chain hands goods out
  Withdraw : List Asset → Location → MachineCall
  Draw : Asset → Location → MachineCall
  Receive : List Asset → Option Location → Bool → MachineCall
  Claim : List Asset → Location → MachineCall
  Refund : Weight → MachineCall
  -- it takes goods in
  Deposit : Location → MachineCall
  Burn : MachineCall
  Buy : Weight → MachineCall
  Exchange : List Asset → Bool → MachineCall
  DepositOut : Location → List Instruction → MachineCall
  Ship : Way → Location → List Instruction → MachineCall
  -- no goods are in hand
  Transfer : List Asset → Location → Location → MachineCall
  TransferOut : List Asset → Location → Location → List Instruction → MachineCall
  Respond : QueryInfo → Response → Option Location → MachineCall
  Answer : Location → ℕ → MachineCall
  -- amounts move between accounts; and a line is kept back
  Dispatch : List ℕ → AnyCall → MachineCall
  KeepBack : Event → MachineCall
  -- locks, and notes of them
  Lock : Asset → Location → Location → MachineCall
  Unlock : Asset → Location → Location → MachineCall
  Note : Asset → Location → Location → MachineCall
  Request : Asset → Location → Location → MachineCall
  -- the slot of the delivery fee
  HoldFee : MachineCall
  TakeFee : MachineCall
  KeepFee : MachineCall
  -- where memory is refused
  Park : MachineCall
  -- the end of a run: the holding is emptied, the trace tells of it, fees are settled, and what was held is trapped
  Empty : MachineCall
  Tell : Event → MachineCall
  Settle : MachineCall
  Trap : Location → MachineCall

abbrev pub why_not : MachineCall → MachineWithGoods → Option XcmError
why_not (MachineCall.Check ok e) t = unless ok e None
why_not (MachineCall.Take filter) t = None
why_not (MachineCall.Pay a) t = unless (holds_asset (here t) a) error.NotHoldingFees None
why_not MachineCall.Join t = None
why_not (MachineCall.Withdraw list who) t = withdraw_refusal t.part list who
why_not (MachineCall.Draw fee who) t = withdraw_refusal t.part (fee ∷ []) who
why_not (MachineCall.Receive list from teleport) t = with_origin from (λ who. receive_refusal t.part list who teleport)
why_not (MachineCall.Claim list who) t = claim_refusal t.part list who
why_not (MachineCall.Refund w) t = None
why_not (MachineCall.Deposit who) t = deposit_refusal t.part t.goods who
why_not MachineCall.Burn t = None
why_not (MachineCall.Buy w) t = buy_refusal t.part w t.goods
why_not (MachineCall.Exchange want maximal) t = exchange_refusal t.part t.goods want maximal
why_not (MachineCall.DepositOut dest xcm) t = deposit_out_refusal t.part t.goods dest xcm
why_not (MachineCall.Ship way dest xcm) t = ship_refusal t.part t.goods way dest xcm
why_not (MachineCall.Transfer list from to) t = transfer_refusal t.part list from to
why_not (MachineCall.TransferOut list from dest xcm) t = transfer_out_refusal t.part list from dest xcm
why_not (MachineCall.Respond info answer querier) t = respond_refusal t.part info answer querier
why_not (MachineCall.Answer from query) t = None
why_not (MachineCall.Dispatch who c) t = None
why_not (MachineCall.KeepBack e) t = None
why_not (MachineCall.Lock a owner unlocker) t = lock_refusal t.part a owner unlocker
why_not (MachineCall.Unlock a target from) t = unlock_refusal t.part a target from
why_not (MachineCall.Note a owner from) t = note_refusal t.part a owner from
why_not (MachineCall.Request a owner locker) t = request_refusal t.part a owner locker
why_not MachineCall.HoldFee t = None
why_not MachineCall.TakeFee t = None
why_not MachineCall.KeepFee t = None
why_not MachineCall.Park t = None
why_not MachineCall.Empty t = None
why_not (MachineCall.Tell e) t = None
why_not MachineCall.Settle t = None
why_not (MachineCall.Trap who) t = None

abbrev pub after : MachineCall → MachineWithGoods → MachineWithGoods
after (MachineCall.Check ok e) t = t
after (MachineCall.Take filter) t = record t { regs = with_holding t.regs (Left filter t.regs.holding); goods = Taken filter t.regs.holding }
after (MachineCall.Pay a) t = record t { regs = with_holding t.regs (difference t.regs.holding (payment_of a)); goods = payment_of a }
after MachineCall.Join t =
    let q = bundles_joined t.part t.regs.holding t.goods in
    record { regs = with_holding t.regs (Joined t.regs.holding t.goods); part = record t.part { burns = q.burns; pending_events = q.pending_events }; goods = empty }
after (MachineCall.Withdraw list who) t = let q = withdrawn t.part list who in record t { part = record t.part { held = q.held; cargo = q.cargo }; goods = bundle_of list }
after (MachineCall.Draw fee who) t = let q = fee_drawn t.part (fee ∷ []) who in record t { part = record t.part { held = q.held }; goods = payment_of fee }
after (MachineCall.Receive list from teleport) t = let q = received t.part list teleport in record t { part = record t.part { checking = q.checking; cargo = q.cargo }; goods = bundle_of list }
after (MachineCall.Claim list who) t = let q = claimed t.part list who in record t { part = record t.part { traps = q.traps }; goods = bundle_of list }
after (MachineCall.Refund w) t = let q = refunded t.part w in record t { part = record t.part { lines = q.lines }; goods = refund_goods t.part w }
after (MachineCall.Deposit who) t = let q = deposited t.part t.goods who in record t { part = record t.part { held = q.held }; goods = empty }
after MachineCall.Burn t = let q = burnt t.part t.goods in record t { part = record t.part { burns = q.burns; pending_events = q.pending_events }; goods = empty }
after (MachineCall.Buy w) t = let q = bought t.part w t.goods in record t { part = record t.part { lines = q.lines; burns = q.burns; pending_events = q.pending_events }; goods = unspent t.part w t.goods }
after (MachineCall.Exchange want maximal) t =
    let q = exchanged t.part t.goods want maximal in
    record t {
      part = record t.part { held = q.held };
      goods = exchange_goods t.part t.goods want maximal;
    }
after (MachineCall.DepositOut dest xcm) t =
    let q = deposited_out t.part t.goods dest xcm in record t { part = record t.part { held = q.held; channels = q.channels; pending_events = q.pending_events }; goods = empty }
after (MachineCall.Ship way dest xcm) t =
    let q = shipped t.part t.goods way dest xcm in record t { part = record t.part { checking = q.checking; channels = q.channels; pending_events = q.pending_events }; goods = empty }
after (MachineCall.Transfer list from to) t = let q = transferred t.part list from to in record t { part = record t.part { held = q.held } }
after (MachineCall.TransferOut list from dest xcm) t =
    let q = transferred_out t.part list from dest xcm in record t { part = record t.part { held = q.held; channels = q.channels; pending_events = q.pending_events } }
after (MachineCall.Respond info answer querier) t = let q = responded t.part info answer querier in record t { part = record t.part { channels = q.channels; pending_events = q.pending_events } }
after (MachineCall.Answer from query) t = let q = answered t.part from query in record t { part = record t.part { queries = q.queries; pending_events = q.pending_events } }
after (MachineCall.Dispatch who c) t = record t { part = record t.part { held = held_dispatched t.part who c } }
after (MachineCall.KeepBack e) t = record t { part = record t.part { pending_events = t.part.pending_events ++ e ∷ [] } }
after (MachineCall.Lock a owner unlocker) t =
    let q = asset_locked t.part a owner unlocker in record t { part = record t.part { locked = q.locked; channels = q.channels; pending_events = q.pending_events } }
after (MachineCall.Unlock a target from) t = let q = asset_unlocked t.part a target from in record t { part = record t.part { locked = q.locked } }
after (MachineCall.Note a owner from) t = let q = asset_noted t.part a owner from in record t { part = record t.part { locked = q.locked } }
after (MachineCall.Request a owner locker) t =
    let q = asset_requested t.part a owner locker in record t { part = record t.part { locked = q.locked; channels = q.channels; pending_events = q.pending_events } }
after MachineCall.HoldFee t = record t { part = record t.part { fee_slot = t.goods }; goods = empty }
after MachineCall.TakeFee t = record t { part = record t.part { fee_slot = empty }; goods = t.part.fee_slot }
after MachineCall.KeepFee t = let q = fee_kept t.part in record t { part = record t.part { fee_slot = empty; fees = q.fees } }
after MachineCall.Park t = let q = parked t.part t.goods in record t { part = record t.part { parked = q.parked }; goods = empty }
after MachineCall.Empty t = record t { regs = with_holding t.regs empty; goods = t.regs.holding }
after (MachineCall.Tell e) t = let q = told t.part e in record t { part = record t.part { events = q.events; pending_events = q.pending_events } }
after MachineCall.Settle t =
    let q = settled t.part in record t { part = record t.part { held = q.held; lines = q.lines; fees = q.fees; burns = q.burns; events = q.events } }
after (MachineCall.Trap who) t = let q = trapped t.part t.goods who in record t { part = record t.part { traps = q.traps; events = q.events }; goods = empty }

-- one after the other
abbrev pub after_all : List MachineCall → MachineWithGoods → MachineWithGoods
after_all [] t = t
after_all (c ∷ cs) t = after_all cs (after c t)

-- the first that is refused decides
abbrev pub refusal_along : List MachineCall → MachineWithGoods → Option XcmError
refusal_along [] t = None
refusal_along (c ∷ cs) t = or_else (why_not c t) (refusal_along cs (after c t))

-- ---- instructions

-- always refused
abbrev pub never : XcmError → List MachineCall
never e = MachineCall.Check false e ∷ []

-- BadOrigin where the register is empty
abbrev pub for_origin : Option Location → (Location → List MachineCall) → List MachineCall
for_origin None calls = never error.BadOrigin
for_origin (Some who) calls = calls who

abbrev pub room : Machine → ℕ → MachineCall
room m n = MachineCall.Check (has_room m n) error.HoldingWouldOverflow

abbrev pub receiving : Machine → List Asset → Bool → List MachineCall
receiving m list teleport = MachineCall.Check (is_some m.regs.origin) error.BadOrigin ∷ room m (length list) ∷ MachineCall.Receive list m.regs.origin teleport ∷ MachineCall.Join ∷ []

-- in fees mode from the origin's account, else from the holding
abbrev pub charge : Machine → Asset → List MachineCall
charge m fee =
    if m.regs.fees_mode
    then for_origin m.regs.origin (λ who. MachineCall.Draw fee who ∷ MachineCall.HoldFee ∷ [])
    else MachineCall.Pay fee ∷ MachineCall.HoldFee ∷ []

abbrev pub around : Option Asset → Machine → (Machine → List MachineCall) → List MachineCall
around None m inside = inside m
around (Some fee) m inside = charge m fee ++ (inside (after_fee m fee) ++ MachineCall.KeepFee ∷ [])

abbrev pub sending_calls : Machine → Location → (Machine → List MachineCall) → List MachineCall
sending_calls m dest inside = around (fee_to m.part dest) m inside

abbrev pub buying : Asset → WeightLimit → List MachineCall
buying fees Unlimited = []
buying fees (Limited w) = MachineCall.Pay fees ∷ MachineCall.Buy w ∷ MachineCall.Join ∷ []

abbrev pub refunding : Machine → Option (Location × ℕ) → List MachineCall
refunding m None = []
refunding m (Some given) = MachineCall.Check (holds_some m given.0 || has_room m 1) error.HoldingWouldOverflow ∷ MachineCall.Refund (not_refunded m) ∷ MachineCall.Join ∷ []

-- assets may be locked here
abbrev pub locking : Machine → MachineCall
locking m = MachineCall.Check m.part.locks error.LockError

abbrev pub report_calls : Machine → QueryInfo → Response → List MachineCall
report_calls n info answer = MachineCall.Respond info answer n.regs.origin ∷ []

-- more assets than a list has are in no message
abbrev pub size_tests : Machine → QueryInfo → Bool → List MachineCall
size_tests n info true = []
size_tests n info false =
    MachineCall.Check (is_some (querier_seen n.part info.destination n.regs.origin)) error.ReanchorFailed
    ∷ MachineCall.Check (is_some (channel_to_location n.part info.destination)) error.Unroutable ∷ never error.ExceedsMaxMessageSize

abbrev pub holding_report : Machine → QueryInfo → Option (List Asset) → List MachineCall
holding_report n info None = never error.ReanchorFailed
holding_report n info (Some list) = size_tests n info (nat_le (length list) 20) ++ report_calls n info (response.Assets list)

abbrev pub pallet_tests : Option PalletInfo → List ℕ → List ℕ → ℕ → ℕ → List MachineCall
pallet_tests None name module_name major least_minor = never error.PalletNotFound
pallet_tests (Some info) name module_name major least_minor =
    MachineCall.Check (has_names info name module_name) error.NameMismatch ∷ MachineCall.Check (has_version info major least_minor) error.VersionIncompatible ∷ []

-- by the call that the bytes are, and by the account that it is made for
abbrev pub dispatching : Machine → Weight → Option AnyCall → Option (List ℕ) → List MachineCall
dispatching m most None account = never error.FailedToDecode
dispatching m most (Some c) None = never error.BadOrigin
dispatching m most (Some c) (Some account) =
    MachineCall.Check (is_within (call_weight m.regs.rule c) most) error.MaxWeightInvalid
    ∷ MachineCall.Dispatch account c ∷ MachineCall.KeepBack (call_line m.part account c) ∷ []

abbrev pub calls : Instruction-F Instruction → Machine → List MachineCall
-- assets into the holding register and out of it
calls (Instruction-F.WithdrawAsset list) m = for_origin m.regs.origin (λ who. room m (length list) ∷ MachineCall.Withdraw list who ∷ MachineCall.Join ∷ [])
calls (Instruction-F.ReserveAssetDeposited list) m = receiving m list false
calls (Instruction-F.ReceiveTeleportedAsset list) m = receiving m list true
calls (Instruction-F.ClaimAsset list ticket) m =
    for_origin m.regs.origin (λ who. room m (length list) ∷ MachineCall.Check (is_ticket ticket) error.UnknownClaim ∷ MachineCall.Claim list who ∷ MachineCall.Join ∷ [])
calls (Instruction-F.DepositAsset filter who) m = MachineCall.Take filter ∷ MachineCall.Deposit who ∷ []
calls (Instruction-F.BurnAsset list) m = MachineCall.Take (Definite list) ∷ MachineCall.Burn ∷ []
calls (Instruction-F.BuyExecution fees limit) m = buying fees limit
calls Instruction-F.RefundSurplus m = refunding m (refund_now m)
calls (Instruction-F.ExchangeAsset filter list maximal) m =
    room m (length list) ∷ MachineCall.Take filter ∷ MachineCall.Exchange list maximal ∷ MachineCall.Join ∷ []
-- transfers
calls (Instruction-F.TransferAsset list who) m = for_origin m.regs.origin (λ from. MachineCall.Transfer list from who ∷ [])
calls (Instruction-F.TransferReserveAsset list dest xcm) m = for_origin m.regs.origin (λ who. sending_calls m dest (λ n. MachineCall.TransferOut list who dest xcm ∷ []))
calls (Instruction-F.DepositReserveAsset filter dest xcm) m = sending_calls m dest (λ n. MachineCall.Take filter ∷ MachineCall.DepositOut dest xcm ∷ [])
calls (Instruction-F.InitiateReserveWithdraw filter dest xcm) m = sending_calls m dest (λ n. MachineCall.Take filter ∷ MachineCall.Ship Way.Withdrawal dest xcm ∷ [])
calls (Instruction-F.InitiateTeleport filter dest xcm) m = sending_calls m dest (λ n. MachineCall.Take filter ∷ MachineCall.Ship Way.Teleport dest xcm ∷ [])
-- reports
calls (Instruction-F.ReportError info) m = sending_calls m info.destination (λ n. report_calls n info (response.ExecutionResult n.regs.error))
calls (Instruction-F.ReportHolding info filter) m = sending_calls m info.destination (λ n. holding_report n info (reported_list n info filter))
calls (Instruction-F.QueryPallet name info) m = sending_calls m info.destination (λ n. report_calls n info (response.PalletsInfo (pallets_of n.part name)))
calls (Instruction-F.ReportTransactStatus info) m = sending_calls m info.destination (λ n. report_calls n info (response.DispatchResult n.regs.status))
-- queries
calls (Instruction-F.QueryResponse query answer weight querier) m = for_origin m.regs.origin (λ who. MachineCall.Answer who query ∷ [])
-- calls of the chain
calls (Instruction-F.Transact kind most bytes) m =
    for_origin m.regs.origin (λ who. dispatching m most (call_in m.part.calls bytes) (caller_in m kind who))
-- locks
calls (Instruction-F.LockAsset asset unlocker) m = for_origin m.regs.origin (λ who. locking m ∷ sending_calls m unlocker (λ n. MachineCall.Lock asset who unlocker ∷ []))
calls (Instruction-F.UnlockAsset asset target) m = for_origin m.regs.origin (λ who. MachineCall.Unlock asset target who ∷ [])
calls (Instruction-F.NoteUnlockable asset owner) m = for_origin m.regs.origin (λ who. MachineCall.Note asset owner who ∷ [])
calls (Instruction-F.RequestUnlock asset locker) m = for_origin m.regs.origin (λ who. locking m ∷ sending_calls m locker (λ n. MachineCall.Request asset who locker ∷ []))
-- the origin register
calls Instruction-F.ClearOrigin m = []
calls (Instruction-F.DescendOrigin path) m = for_origin m.regs.origin (λ who. MachineCall.Check (fits_below who path) error.LocationFull ∷ [])
-- programs of the run, and registers
calls (Instruction-F.SetErrorHandler xcm) m = []
calls (Instruction-F.SetAppendix xcm) m = []
calls Instruction-F.ClearError m = []
calls Instruction-F.ClearTransactStatus m = []
calls (Instruction-F.SetFeesMode mode) m = []
calls (Instruction-F.SetTopic topic) m = []
calls Instruction-F.ClearTopic m = []
calls (Instruction-F.Trap code) m = never (error.Trap code)
-- expectations
calls (Instruction-F.ExpectAsset list) m = MachineCall.Check (holds_list m list) error.ExpectationFalse ∷ []
calls (Instruction-F.ExpectOrigin origin) m = MachineCall.Check (same_origin m.regs.origin origin) error.ExpectationFalse ∷ []
calls (Instruction-F.ExpectError failure) m = MachineCall.Check (same_failure m.regs.error failure) error.ExpectationFalse ∷ []
calls (Instruction-F.ExpectTransactStatus status) m = MachineCall.Check (same_status m.regs.status status) error.ExpectationFalse ∷ []
calls (Instruction-F.ExpectPallet place name module_name major least_minor) m = pallet_tests (pallet_at m place) name module_name major least_minor
calls (Instruction-F.UnpaidExecution limit origin) m = MachineCall.Check (is_checked_origin m origin) error.BadOrigin ∷ []
-- unconfigured
calls (Instruction-F.HrmpNewChannelOpenRequest sender size capacity) m = never error.Unimplemented
calls (Instruction-F.HrmpChannelAccepted recipient) m = never error.Unimplemented
calls (Instruction-F.HrmpChannelClosing initiator sender recipient) m = never error.Unimplemented
calls (Instruction-F.SubscribeVersion query weight) m = MachineCall.Check (is_original m) error.BadOrigin ∷ never error.Unimplemented
calls Instruction-F.UnsubscribeVersion m = MachineCall.Check (is_original m) error.BadOrigin ∷ never error.Unimplemented
calls (Instruction-F.UniversalOrigin junction) m = MachineCall.Check (not (is_own_network m junction)) error.InvalidLocation ∷ for_origin m.regs.origin (λ who. never error.InvalidLocation)
calls (Instruction-F.ExportMessage network path xcm) m = for_origin m.regs.origin (λ who. never error.Unroutable)
calls (Instruction-F.AliasOrigin target) m = for_origin m.regs.origin (λ who. never error.NoPermission)

-- what was refunded is noted where something was
abbrev pub refund_noted : Machine → Option (Location × ℕ) → Registers → Registers
refund_noted m None r = r
refund_noted m (Some given) r = record r { refunded = m.regs.surplus }

abbrev pub below_origin : Option Location → List Junction → Registers → Registers
below_origin None path r = r
below_origin (Some who) path r = record r { origin = Some (descended who path) }

-- how the call ended, and what it spared of the weight
abbrev pub call_noted : Machine → Weight → Option AnyCall → Option (List ℕ) → Registers → Registers
call_noted m most None account r = r
call_noted m most (Some c) None r = r
call_noted m most (Some c) (Some account) r = record r {
  status = status_of (dispatch_end m.part account c);
  surplus = weight_added r.surplus (spare_weight m.regs.rule most c);
}

abbrev pub call_noted_for : Option Location → Machine → OriginKind → Weight → List ℕ → Registers
    → Registers
call_noted_for None m kind most bytes r = r
call_noted_for (Some who) m kind most bytes r =
    call_noted m most (call_in m.part.calls bytes) (caller_in m kind who) r

-- the registers at the instruction's end; the holding is the calls'
abbrev pub turned : Instruction-F Instruction → Machine → Registers → Registers
turned Instruction-F.RefundSurplus m r = refund_noted m (refund_now m) r
turned Instruction-F.ClearOrigin m r = record r { origin = None }
turned (Instruction-F.DescendOrigin path) m r = below_origin m.regs.origin path r
turned (Instruction-F.SetErrorHandler xcm) m r = with_handler xcm r
turned (Instruction-F.SetAppendix xcm) m r = with_appendix xcm r
turned Instruction-F.ClearError m r = record r { error = None }
turned Instruction-F.ClearTransactStatus m r = record r { status = Success }
turned (Instruction-F.SetFeesMode mode) m r = record r { fees_mode = mode }
turned (Instruction-F.SetTopic topic) m r = record r { topic = Some topic }
turned Instruction-F.ClearTopic m r = record r { topic = None }
turned (Instruction-F.Transact kind most bytes) m r = call_noted_for m.regs.origin m kind most bytes r
turned _ m r = r

abbrev pub turned_at : Instruction-F Instruction → Machine → MachineWithGoods → MachineWithGoods
turned_at l m t = record t { regs = turned l m t.regs }

-- the whole instruction
abbrev pub through : Instruction-F Instruction → Machine → MachineWithGoods
through l m = turned_at l m (after_all (calls l m) (between m))
