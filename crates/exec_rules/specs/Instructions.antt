-- What each of the 48 instructions refuses, and what it leaves where it isn't refused: one line for each. Source: the XCM format's
-- instruction set and xcm-executor's documentation; what isn't configured answers as if nothing were there. The orders of refusals are this
-- project's own rule; this crate's README says which.
use Rattle.std.specs.Prelude.{not, true, false, length, Option, Some, None}
use Rattle.operands.specs.declared.error.XcmError.{XcmError}
use Rattle.operands.specs.declared.error.XcmError.TheVariants as error
use Rattle.operands.specs.declared.query.Response.TheVariants as response
use Rattle.operands.specs.declared.status.MaybeError.TheVariants.{Success}
use Rattle.asset_lists.specs.declared.filters.Filter.TheVariants.{Definite}
use Rattle.asset_bundles.specs.Bundles.{bundle_of}
use Rattle.asset_bundles.specs.declared.shipment.Way.{Way}
use Rattle.xcm_program.specs.declared.instruction.Instruction.{Instruction, out-Instruction}
use Rattle.xcm_program.specs.declared.instruction.Instruction.TheOpen.{Instruction-F}
use Rattle.exec_base.specs.Sending.{unless}
use Rattle.exec_base.specs.Host.{withdraw_refusal, withdrawn, deposit_refusal, deposited, transfer_refusal, transferred, receive_refusal, received, transfer_out_refusal, transferred_out, deposit_out_refusal, deposited_out, ship_refusal, shipped, answered, burnt, claim_refusal, claimed, where_locks, lock_refusal, asset_locked, unlock_refusal, asset_unlocked, note_refusal, asset_noted, request_refusal, asset_requested}
use Rattle.exec_base.specs.Pools.{exchange_refusal, exchanged, exchange_goods}
use Rattle.exec_rules.specs.Machine.{Machine, machine, Rules}
use Rattle.exec_rules.specs.Holdings.{with_origin, at_origin, with_room, holds_list, holding_more, taken_of, holding_left, is_ticket, buying_refusal, buying_done, refund_now, refund_refusal, refund_done}
use Rattle.exec_rules.specs.Fees.{refused_sending, done_sending}
use Rattle.exec_rules.specs.Reports.{report_refused, report_done, pallets_of, reported_list, holding_report_refused, holding_report_done}
use Rattle.exec_rules.specs.Origins.{same_origin, if_original, is_checked_origin, fits_below, descended, is_own_network}
use Rattle.exec_rules.specs.Programs.{with_registers, with_handler, with_appendix}
use Rattle.exec_rules.specs.Calls.{call_in, caller_in, call_refusal, call_done}
use Rattle.exec_rules.specs.Expectations.{expected, same_failure, same_status, pallet_refusal, pallet_at}

-- ---- the first refusal, or none
abbrev pub refused : Instruction-F Instruction → Machine → Option XcmError
-- assets into the holding register and out of it
refused (Instruction-F.WithdrawAsset list) m = with_origin m.regs.origin (λ who. with_room m (length list) (withdraw_refusal m.part list who))
refused (Instruction-F.ReserveAssetDeposited list) m = with_origin m.regs.origin (λ who. with_room m (length list) (receive_refusal m.part list who false))
refused (Instruction-F.ReceiveTeleportedAsset list) m = with_origin m.regs.origin (λ who. with_room m (length list) (receive_refusal m.part list who true))
refused (Instruction-F.ClaimAsset list ticket) m = with_origin m.regs.origin (λ who. with_room m (length list) (unless (is_ticket ticket) error.UnknownClaim (claim_refusal m.part list who)))
refused (Instruction-F.DepositAsset filter who) m = deposit_refusal m.part (taken_of m filter) who
refused (Instruction-F.BurnAsset list) m = None
refused (Instruction-F.BuyExecution fees limit) m = buying_refusal m fees limit
refused Instruction-F.RefundSurplus m = refund_refusal m (refund_now m)
refused (Instruction-F.ExchangeAsset filter list maximal) m =
    with_room m (length list) (exchange_refusal m.part (taken_of m filter) list maximal)
-- transfers
refused (Instruction-F.TransferAsset list who) m = with_origin m.regs.origin (λ from. transfer_refusal m.part list from who)
refused (Instruction-F.TransferReserveAsset list dest xcm) m = with_origin m.regs.origin (λ who. refused_sending m dest (λ n. transfer_out_refusal n.part list who dest xcm))
refused (Instruction-F.DepositReserveAsset filter dest xcm) m = refused_sending m dest (λ n. deposit_out_refusal n.part (taken_of n filter) dest xcm)
refused (Instruction-F.InitiateReserveWithdraw filter dest xcm) m = refused_sending m dest (λ n. ship_refusal n.part (taken_of n filter) Way.Withdrawal dest xcm)
refused (Instruction-F.InitiateTeleport filter dest xcm) m = refused_sending m dest (λ n. ship_refusal n.part (taken_of n filter) Way.Teleport dest xcm)
-- reports
refused (Instruction-F.ReportError info) m = refused_sending m info.destination (λ n. report_refused n info (response.ExecutionResult n.regs.error))
refused (Instruction-F.ReportHolding info filter) m = refused_sending m info.destination (λ n. holding_report_refused n info (reported_list n info filter))
refused (Instruction-F.QueryPallet name info) m = refused_sending m info.destination (λ n. report_refused n info (response.PalletsInfo (pallets_of n.part name)))
refused (Instruction-F.ReportTransactStatus info) m = refused_sending m info.destination (λ n. report_refused n info (response.DispatchResult n.regs.status))
-- queries
refused (Instruction-F.QueryResponse query answer weight querier) m = with_origin m.regs.origin (λ who. None)
-- calls
refused (Instruction-F.Transact kind most bytes) m = with_origin m.regs.origin (λ who. call_refusal m.regs.rule most (call_in m.part.calls bytes) (caller_in m kind who))
-- locks
refused (Instruction-F.LockAsset asset unlocker) m = with_origin m.regs.origin (λ who. where_locks m.part (refused_sending m unlocker (λ n. lock_refusal n.part asset who unlocker)))
refused (Instruction-F.UnlockAsset asset target) m = with_origin m.regs.origin (λ who. unlock_refusal m.part asset target who)
refused (Instruction-F.NoteUnlockable asset owner) m = with_origin m.regs.origin (λ who. note_refusal m.part asset owner who)
refused (Instruction-F.RequestUnlock asset locker) m = with_origin m.regs.origin (λ who. where_locks m.part (refused_sending m locker (λ n. request_refusal n.part asset who locker)))
-- the origin register
refused Instruction-F.ClearOrigin m = None
refused (Instruction-F.DescendOrigin path) m = with_origin m.regs.origin (λ who. unless (fits_below who path) error.LocationFull None)
-- programs of the run, and registers
refused (Instruction-F.SetErrorHandler xcm) m = None
refused (Instruction-F.SetAppendix xcm) m = None
refused Instruction-F.ClearError m = None
refused Instruction-F.ClearTransactStatus m = None
refused (Instruction-F.SetFeesMode mode) m = None
refused (Instruction-F.SetTopic topic) m = None
refused Instruction-F.ClearTopic m = None
refused (Instruction-F.Trap code) m = Some (error.Trap code)
-- expectations
refused (Instruction-F.ExpectAsset list) m = expected (holds_list m list)
refused (Instruction-F.ExpectOrigin origin) m = expected (same_origin m.regs.origin origin)
refused (Instruction-F.ExpectError failure) m = expected (same_failure m.regs.error failure)
refused (Instruction-F.ExpectTransactStatus status) m = expected (same_status m.regs.status status)
refused (Instruction-F.ExpectPallet place name module_name major least_minor) m = pallet_refusal (pallet_at m place) name module_name major least_minor
refused (Instruction-F.UnpaidExecution limit origin) m = unless (is_checked_origin m origin) error.BadOrigin None
-- unconfigured
refused (Instruction-F.HrmpNewChannelOpenRequest sender size capacity) m = Some error.Unimplemented
refused (Instruction-F.HrmpChannelAccepted recipient) m = Some error.Unimplemented
refused (Instruction-F.HrmpChannelClosing initiator sender recipient) m = Some error.Unimplemented
refused (Instruction-F.SubscribeVersion query weight) m = if_original m (Some error.Unimplemented)
refused Instruction-F.UnsubscribeVersion m = if_original m (Some error.Unimplemented)
refused (Instruction-F.UniversalOrigin junction) m = unless (not (is_own_network m junction)) error.InvalidLocation (with_origin m.regs.origin (λ who. Some error.InvalidLocation))
refused (Instruction-F.ExportMessage network path xcm) m = with_origin m.regs.origin (λ who. Some error.Unroutable)
refused (Instruction-F.AliasOrigin target) m = with_origin m.regs.origin (λ who. Some error.NoPermission)

-- ---- what is left where nothing is refused; those that are always refused have nothing to say
abbrev pub done : Instruction-F Instruction → Machine → Machine
-- assets into the holding register and out of it
done (Instruction-F.WithdrawAsset list) m = at_origin m.regs.origin (λ who. holding_more m (withdrawn m.part list who) (bundle_of list)) m
done (Instruction-F.ReserveAssetDeposited list) m = holding_more m (received m.part list false) (bundle_of list)
done (Instruction-F.ReceiveTeleportedAsset list) m = holding_more m (received m.part list true) (bundle_of list)
done (Instruction-F.ClaimAsset list ticket) m = at_origin m.regs.origin (λ who. holding_more m (claimed m.part list who) (bundle_of list)) m
done (Instruction-F.DepositAsset filter who) m = holding_left m filter (deposited m.part (taken_of m filter) who)
done (Instruction-F.BurnAsset list) m = holding_left m (Definite list) (burnt m.part (taken_of m (Definite list)))
done (Instruction-F.BuyExecution fees limit) m = buying_done m fees limit
done Instruction-F.RefundSurplus m = refund_done m (refund_now m)
done (Instruction-F.ExchangeAsset filter list maximal) m =
    let give = taken_of m filter in
    holding_more (holding_left m filter m.part) (exchanged m.part give list maximal)
    (exchange_goods m.part give list maximal)
-- transfers
done (Instruction-F.TransferAsset list who) m = at_origin m.regs.origin (λ from. machine m.regs (transferred m.part list from who)) m
done (Instruction-F.TransferReserveAsset list dest xcm) m = at_origin m.regs.origin (λ who. done_sending m dest (λ n. machine n.regs (transferred_out n.part list who dest xcm))) m
done (Instruction-F.DepositReserveAsset filter dest xcm) m = done_sending m dest (λ n. holding_left n filter (deposited_out n.part (taken_of n filter) dest xcm))
done (Instruction-F.InitiateReserveWithdraw filter dest xcm) m = done_sending m dest (λ n. holding_left n filter (shipped n.part (taken_of n filter) Way.Withdrawal dest xcm))
done (Instruction-F.InitiateTeleport filter dest xcm) m = done_sending m dest (λ n. holding_left n filter (shipped n.part (taken_of n filter) Way.Teleport dest xcm))
-- reports
done (Instruction-F.ReportError info) m = done_sending m info.destination (λ n. report_done n info (response.ExecutionResult n.regs.error))
done (Instruction-F.ReportHolding info filter) m = done_sending m info.destination (λ n. holding_report_done n info (reported_list n info filter))
done (Instruction-F.QueryPallet name info) m = done_sending m info.destination (λ n. report_done n info (response.PalletsInfo (pallets_of n.part name)))
done (Instruction-F.ReportTransactStatus info) m = done_sending m info.destination (λ n. report_done n info (response.DispatchResult n.regs.status))
-- queries
done (Instruction-F.QueryResponse query answer weight querier) m = at_origin m.regs.origin (λ who. machine m.regs (answered m.part who query)) m
-- calls
done (Instruction-F.Transact kind most bytes) m = at_origin m.regs.origin (λ who. call_done m most (call_in m.part.calls bytes) (caller_in m kind who)) m
-- locks
done (Instruction-F.LockAsset asset unlocker) m = at_origin m.regs.origin (λ who. done_sending m unlocker (λ n. machine n.regs (asset_locked n.part asset who unlocker))) m
done (Instruction-F.UnlockAsset asset target) m = at_origin m.regs.origin (λ who. machine m.regs (asset_unlocked m.part asset target who)) m
done (Instruction-F.NoteUnlockable asset owner) m = at_origin m.regs.origin (λ who. machine m.regs (asset_noted m.part asset owner who)) m
done (Instruction-F.RequestUnlock asset locker) m = at_origin m.regs.origin (λ who. done_sending m locker (λ n. machine n.regs (asset_requested n.part asset who locker))) m
-- the origin register
done Instruction-F.ClearOrigin m = with_registers m (record m.regs { origin = None })
done (Instruction-F.DescendOrigin path) m = at_origin m.regs.origin (λ who. with_registers m (record m.regs { origin = Some (descended who path) })) m
-- programs of the run, and registers
done (Instruction-F.SetErrorHandler xcm) m = with_registers m (with_handler xcm m.regs)
done (Instruction-F.SetAppendix xcm) m = with_registers m (with_appendix xcm m.regs)
done Instruction-F.ClearError m = with_registers m (record m.regs { error = None })
done Instruction-F.ClearTransactStatus m = with_registers m (record m.regs { status = Success })
done (Instruction-F.SetFeesMode mode) m = with_registers m (record m.regs { fees_mode = mode })
done (Instruction-F.SetTopic topic) m = with_registers m (record m.regs { topic = Some topic })
done Instruction-F.ClearTopic m = with_registers m (record m.regs { topic = None })
done (Instruction-F.Trap code) m = m
-- expectations
done (Instruction-F.ExpectAsset list) m = m
done (Instruction-F.ExpectOrigin origin) m = m
done (Instruction-F.ExpectError failure) m = m
done (Instruction-F.ExpectTransactStatus status) m = m
done (Instruction-F.ExpectPallet place name module_name major least_minor) m = m
done (Instruction-F.UnpaidExecution limit origin) m = m
-- unconfigured
done (Instruction-F.HrmpNewChannelOpenRequest sender size capacity) m = m
done (Instruction-F.HrmpChannelAccepted recipient) m = m
done (Instruction-F.HrmpChannelClosing initiator sender recipient) m = m
done (Instruction-F.SubscribeVersion query weight) m = m
done Instruction-F.UnsubscribeVersion m = m
done (Instruction-F.UniversalOrigin junction) m = m
done (Instruction-F.ExportMessage network path xcm) m = m
done (Instruction-F.AliasOrigin target) m = m

-- ---- of whole instructions
abbrev pub refusal_of : Instruction → Machine → Option XcmError
refusal_of x m = refused (out-Instruction x) m

abbrev pub xcm : Rules
xcm = record {
  refusal_of = refusal_of;
  done = λ x m. done (out-Instruction x) m;
}
