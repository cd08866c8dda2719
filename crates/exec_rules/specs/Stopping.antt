-- Where out of memory may stop an instruction, besides where it began: what had been moved is parked. One line for each instruction; ⊥ says
-- that it changes nothing before all is done. This project's own rule.
use Rattle.std.specs.Prelude.{◌≡◌, ◌⊎◌, Bool, true, false, List, Option, Some, None}
use Rattle.locations.specs.declared.relative.Location.{Location}
use Rattle.operands.specs.declared.weight.WeightLimit.{WeightLimit}
use Rattle.operands.specs.declared.weight.WeightLimit.TheVariants.{Unlimited, Limited}
use Rattle.asset_lists.specs.declared.units.Asset.{Asset}
use Rattle.asset_lists.specs.declared.filters.Filter.{Filter}
use Rattle.asset_lists.specs.declared.filters.Filter.TheVariants.{Definite}
use Rattle.asset_bundles.specs.Bundles.{Bundle, bundle_of}
use Rattle.xcm_program.specs.declared.instruction.Instruction.{Instruction, out-Instruction}
use Rattle.xcm_program.specs.declared.instruction.Instruction.TheOpen.{Instruction-F}
use Rattle.exec_base.specs.Part.{ChainPart}
use Rattle.exec_base.specs.Host.{withdrawn, received, claimed, unspent, bought, refund_goods, refunded, parked, fee_to, fee_taken}
use Rattle.exec_base.specs.Pools.{exchanged, exchange_goods}
use Rattle.exec_rules.specs.Machine.{Machine, machine}
use Rattle.exec_rules.specs.Holdings.{at_origin, holds_asset, taken_of, holding_left, holding_paid, payment_of, not_refunded, refund_now, refund_refusal, buying_refusal}
use Rattle.exec_rules.specs.Fees.{fee_refusal, after_fee}
use Rattle.exec_rules.specs.Calls.{CallStopsAt}
use Rattle.exec_rules.specs.Instructions.{refused}

-- goods are parked
abbrev pub parking : Machine → ChainPart → Bundle → Machine
parking m p goods = machine m.regs (parked p goods)

-- goods had come from outside, and weren't joined to what is held
abbrev pub UnjoinedOnOom : Instruction-F Instruction → Machine → (Location → ChainPart) → Bundle → Machine → Type 0
UnjoinedOnOom l m change goods now = (refused l m ≡ None) × (now ≡ at_origin m.regs.origin (λ who. parking m (change who) goods) m)

-- what a filter took weren't put back
abbrev pub NotPutBack : Machine → Filter → Machine → Type 0
NotPutBack m filter now = now ≡ holding_left m filter (parked m.part (taken_of m filter))

-- a payment wasn't put back; or weight was bought, and what is unspent wasn't joined to what is held
abbrev pub BuyingStops : Machine → Asset → WeightLimit → Machine → Type 0
BuyingStops m fees Unlimited now = ⊥
BuyingStops m fees (Limited w) now =
    ((holds_asset m fees ≡ true) × (now ≡ parking (holding_paid m fees) m.part (payment_of fees)))
    ⊎ ((buying_refusal m fees (Limited w) ≡ None) × (now ≡ parking (holding_paid m fees) (bought m.part w (payment_of fees)) (unspent m.part w (payment_of fees))))

-- what was given back wasn't joined to what is held
abbrev pub RefundStops : Machine → Machine → Type 0
RefundStops m now = (refund_refusal m (refund_now m) ≡ None) × (now ≡ parking m (refunded m.part (not_refunded m)) (refund_goods m.part (not_refunded m)))

-- what was to be given wasn't put back; or it was exchanged, and what came of it wasn't joined to what is held
abbrev pub ExchangeStops : Machine → Filter → List Asset → Bool → Machine → Type 0
ExchangeStops m filter list maximal now =
    let give = taken_of m filter in
    NotPutBack m filter now
    ⊎ ((refused (Instruction-F.ExchangeAsset filter list maximal) m ≡ None)
    × (now ≡ parking (holding_left m filter m.part) (exchanged m.part give list maximal)
    (exchange_goods m.part give list maximal)))

-- the slot was emptied, and what was in it is parked
abbrev pub fee_parked : Machine → Machine
fee_parked m = machine m.regs (parked (fee_taken m.part) m.part.fee_slot)

-- around a delivery fee that was taken: it is still in the slot, and the instruction inside changed nothing or stopped; or that was refused, and the fee
-- wasn't given back
abbrev pub StopsAround : Option Asset → Machine → (Machine → Machine → Type 0) → Machine → Type 0
StopsAround None m inside now = inside m now
StopsAround (Some fee) m inside now = (fee_refusal m fee ≡ None) × ((now ≡ after_fee m fee) ⊎ inside (after_fee m fee) now ⊎ (now ≡ fee_parked (after_fee m fee)))

abbrev pub StopsSending : Machine → Location → (Machine → Machine → Type 0) → Machine → Type 0
StopsSending m dest inside now = StopsAround (fee_to m.part dest) m inside now

-- ---- the table
abbrev pub PartwayOnOom : Instruction-F Instruction → Machine → Machine → Type 0
-- assets into the holding register and out of it
PartwayOnOom (Instruction-F.WithdrawAsset list) m now = UnjoinedOnOom (Instruction-F.WithdrawAsset list) m (λ who. withdrawn m.part list who) (bundle_of list) now
PartwayOnOom (Instruction-F.ReserveAssetDeposited list) m now = UnjoinedOnOom (Instruction-F.ReserveAssetDeposited list) m (λ who. received m.part list false) (bundle_of list) now
PartwayOnOom (Instruction-F.ReceiveTeleportedAsset list) m now = UnjoinedOnOom (Instruction-F.ReceiveTeleportedAsset list) m (λ who. received m.part list true) (bundle_of list) now
PartwayOnOom (Instruction-F.ClaimAsset list ticket) m now = UnjoinedOnOom (Instruction-F.ClaimAsset list ticket) m (λ who. claimed m.part list who) (bundle_of list) now
PartwayOnOom (Instruction-F.DepositAsset filter who) m now = NotPutBack m filter now
PartwayOnOom (Instruction-F.BurnAsset list) m now = NotPutBack m (Definite list) now
PartwayOnOom (Instruction-F.BuyExecution fees limit) m now = BuyingStops m fees limit now
PartwayOnOom Instruction-F.RefundSurplus m now = RefundStops m now
PartwayOnOom (Instruction-F.ExchangeAsset filter list maximal) m now = ExchangeStops m filter list maximal now
-- transfers
PartwayOnOom (Instruction-F.TransferAsset list who) m now = ⊥
PartwayOnOom (Instruction-F.TransferReserveAsset list dest xcm) m now = StopsSending m dest (λ n left. ⊥) now
PartwayOnOom (Instruction-F.DepositReserveAsset filter dest xcm) m now = StopsSending m dest (λ n left. NotPutBack n filter left) now
PartwayOnOom (Instruction-F.InitiateReserveWithdraw filter dest xcm) m now = StopsSending m dest (λ n left. NotPutBack n filter left) now
PartwayOnOom (Instruction-F.InitiateTeleport filter dest xcm) m now = StopsSending m dest (λ n left. NotPutBack n filter left) now
-- reports
PartwayOnOom (Instruction-F.ReportError info) m now = StopsSending m info.destination (λ n left. ⊥) now
PartwayOnOom (Instruction-F.ReportHolding info filter) m now = StopsSending m info.destination (λ n left. ⊥) now
PartwayOnOom (Instruction-F.QueryPallet name info) m now = StopsSending m info.destination (λ n left. ⊥) now
PartwayOnOom (Instruction-F.ReportTransactStatus info) m now = StopsSending m info.destination (λ n left. ⊥) now
-- queries
PartwayOnOom (Instruction-F.QueryResponse query answer weight querier) m now = ⊥
-- calls
PartwayOnOom (Instruction-F.Transact kind most bytes) m now = CallStopsAt m kind bytes m.regs.origin now
-- locks
PartwayOnOom (Instruction-F.LockAsset asset unlocker) m now = (m.part.locks ≡ true) × StopsSending m unlocker (λ n left. ⊥) now
PartwayOnOom (Instruction-F.UnlockAsset asset target) m now = ⊥
PartwayOnOom (Instruction-F.NoteUnlockable asset owner) m now = ⊥
PartwayOnOom (Instruction-F.RequestUnlock asset locker) m now = (m.part.locks ≡ true) × StopsSending m locker (λ n left. ⊥) now
-- the origin register
PartwayOnOom Instruction-F.ClearOrigin m now = ⊥
PartwayOnOom (Instruction-F.DescendOrigin path) m now = ⊥
-- programs of the run, and registers
PartwayOnOom (Instruction-F.SetErrorHandler xcm) m now = ⊥
PartwayOnOom (Instruction-F.SetAppendix xcm) m now = ⊥
PartwayOnOom Instruction-F.ClearError m now = ⊥
PartwayOnOom Instruction-F.ClearTransactStatus m now = ⊥
PartwayOnOom (Instruction-F.SetFeesMode mode) m now = ⊥
PartwayOnOom (Instruction-F.SetTopic topic) m now = ⊥
PartwayOnOom Instruction-F.ClearTopic m now = ⊥
PartwayOnOom (Instruction-F.Trap code) m now = ⊥
-- expectations
PartwayOnOom (Instruction-F.ExpectAsset list) m now = ⊥
PartwayOnOom (Instruction-F.ExpectOrigin origin) m now = ⊥
PartwayOnOom (Instruction-F.ExpectError failure) m now = ⊥
PartwayOnOom (Instruction-F.ExpectTransactStatus status) m now = ⊥
PartwayOnOom (Instruction-F.ExpectPallet place name module_name major least_minor) m now = ⊥
PartwayOnOom (Instruction-F.UnpaidExecution limit origin) m now = ⊥
-- unconfigured
PartwayOnOom (Instruction-F.HrmpNewChannelOpenRequest sender size capacity) m now = ⊥
PartwayOnOom (Instruction-F.HrmpChannelAccepted recipient) m now = ⊥
PartwayOnOom (Instruction-F.HrmpChannelClosing initiator sender recipient) m now = ⊥
PartwayOnOom (Instruction-F.SubscribeVersion query weight) m now = ⊥
PartwayOnOom Instruction-F.UnsubscribeVersion m now = ⊥
PartwayOnOom (Instruction-F.UniversalOrigin junction) m now = ⊥
PartwayOnOom (Instruction-F.ExportMessage network path xcm) m now = ⊥
PartwayOnOom (Instruction-F.AliasOrigin target) m now = ⊥

-- what an instruction may leave where memory was refused: all as it was, or one of these
abbrev pub LeftOnOom : Instruction-F Instruction → Machine → Machine → Type 0
LeftOnOom l before now = (now ≡ before) ⊎ PartwayOnOom l before now

abbrev pub leaves_on_oom : Instruction → Machine → Machine → Type 0
leaves_on_oom x before now = LeftOnOom (out-Instruction x) before now
