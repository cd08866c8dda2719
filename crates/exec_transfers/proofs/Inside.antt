-- Each instruction that sends is a rule and a change inside a delivery fee.
use Rattle.std.proofs.Common.{◌≡◌, ℕ, Bool, true, List, Option, Some, refl, ap, ◌∙◌}
use Rattle.locations.specs.declared.relative.Location.{Location}
use Rattle.operands.specs.declared.error.XcmError.{XcmError}
use Rattle.operands.specs.declared.error.XcmError.TheVariants as error
use Rattle.operands.specs.declared.query.QueryInfo.{QueryInfo}
use Rattle.operands.specs.declared.query.Response.TheVariants as response
use Rattle.asset_lists.specs.declared.units.Asset.{Asset}
use Rattle.asset_lists.specs.declared.filters.Filter.{Filter}
use Rattle.asset_bundles.specs.declared.shipment.Way.{Way}
use Rattle.xcm_program.specs.declared.instruction.Instruction.{Instruction}
use Rattle.xcm_program.specs.declared.instruction.Instruction.TheOpen.{Instruction-F}
use Rattle.xcm_program.specs.Measure.{inner}
use Rattle.exec_base.specs.Sending.{unless}
use Rattle.exec_base.specs.Host.{lock_refusal, asset_locked, request_refusal, asset_requested, fee_to, transfer_out_refusal, transferred_out, deposit_out_refusal, deposited_out, ship_refusal, shipped}
use Rattle.exec_rules.specs.Machine.{Machine, machine}
use Rattle.exec_rules.specs.Holdings.{with_origin, at_origin, taken_of, holding_left}
use Rattle.exec_rules.specs.Fees.{refused_sending, done_sending}
use Rattle.exec_rules.specs.Reports.{report_refused, report_done, pallets_of, reported_list, holding_report_refused, holding_report_done}
use Rattle.exec_rules.specs.Stopping.{NotPutBack}
use Rattle.exec_transfers.specs.Leaving.{leaving}
use Rattle.exec_transfers.proofs.Around.{IsInside}

pub transfer_inside : (m : Machine) (list : List Asset) (dest : Location) (xcm : List Instruction) (who : Location) → m.regs.origin ≡ Some who
    → IsInside (Instruction-F.TransferReserveAsset list dest xcm) m (fee_to m.part dest) (λ n. transfer_out_refusal n.part list who dest xcm) (λ n. machine n.regs (transferred_out n.part list who dest xcm)) (λ n left. ⊥)
transfer_inside m list dest xcm who origin = record {
  refused = ap (λ (o : Option Location). with_origin o (λ w. refused_sending m dest (λ n. transfer_out_refusal n.part list w dest xcm))) origin;
  done = ap (λ (o : Option Location). at_origin o (λ w. done_sending m dest (λ n. machine n.regs (transferred_out n.part list w dest xcm))) m) origin;
  stops = λ now left. left;
}

-- where assets may be locked
locks_inside : (b : Bool) (o : Option Location) (rule : Location → Option XcmError) (who : Location) → o ≡ Some who → b ≡ true → with_origin o (λ w. unless b error.LockError (rule w)) ≡ rule who
locks_inside b o rule who origin locks =
    ap (λ (x : Option Location). with_origin x (λ w. unless b error.LockError (rule w))) origin ∙ ap (λ (x : Bool). unless x error.LockError (rule who)) locks

pub lock_inside : (m : Machine) (a : Asset) (unlocker who : Location) → m.regs.origin ≡ Some who → m.part.locks ≡ true
    → IsInside (Instruction-F.LockAsset a unlocker) m (fee_to m.part unlocker) (λ n. lock_refusal n.part a who unlocker) (λ n. machine n.regs (asset_locked n.part a who unlocker)) (λ n left. ⊥)
lock_inside m a unlocker who origin locks = record {
  refused = locks_inside m.part.locks m.regs.origin (λ w. refused_sending m unlocker (λ n. lock_refusal n.part a w unlocker)) who origin locks;
  done = ap (λ (o : Option Location). at_origin o (λ w. done_sending m unlocker (λ n. machine n.regs (asset_locked n.part a w unlocker))) m) origin;
  stops = λ now left. (locks, left);
}

pub request_inside : (m : Machine) (a : Asset) (locker who : Location) → m.regs.origin ≡ Some who → m.part.locks ≡ true
    → IsInside (Instruction-F.RequestUnlock a locker) m (fee_to m.part locker) (λ n. request_refusal n.part a who locker) (λ n. machine n.regs (asset_requested n.part a who locker)) (λ n left. ⊥)
request_inside m a locker who origin locks = record {
  refused = locks_inside m.part.locks m.regs.origin (λ w. refused_sending m locker (λ n. request_refusal n.part a w locker)) who origin locks;
  done = ap (λ (o : Option Location). at_origin o (λ w. done_sending m locker (λ n. machine n.regs (asset_requested n.part a w locker))) m) origin;
  stops = λ now left. (locks, left);
}

pub deposit_inside : (m : Machine) (filter : Filter) (dest : Location) (xcm : List Instruction)
    → IsInside (Instruction-F.DepositReserveAsset filter dest xcm) m (fee_to m.part dest) (λ n. deposit_out_refusal n.part (taken_of n filter) dest xcm) (λ n. holding_left n filter (deposited_out n.part (taken_of n filter) dest xcm)) (λ n left. NotPutBack n filter left)
deposit_inside m filter dest xcm = record { refused = refl; done = refl; stops = λ now left. left }

pub leaving_inside : (m : Machine) (way : Way) (filter : Filter) (dest : Location) (xcm : List Instruction)
    → IsInside (leaving way filter dest xcm) m (fee_to m.part dest) (λ n. ship_refusal n.part (taken_of n filter) way dest xcm) (λ n. holding_left n filter (shipped n.part (taken_of n filter) way dest xcm)) (λ n left. NotPutBack n filter left)
leaving_inside m Way.Withdrawal filter dest xcm = record { refused = refl; done = refl; stops = λ now left. left }
leaving_inside m Way.Teleport filter dest xcm = record { refused = refl; done = refl; stops = λ now left. left }

pub inner_leaving : (way : Way) (filter : Filter) (dest : Location) (xcm : List Instruction) → inner (leaving way filter dest xcm) ≡ Some xcm
inner_leaving Way.Withdrawal filter dest xcm = refl
inner_leaving Way.Teleport filter dest xcm = refl

pub error_inside : (m : Machine) (info : QueryInfo)
    → IsInside (Instruction-F.ReportError info) m (fee_to m.part info.destination) (λ n. report_refused n info (response.ExecutionResult n.regs.error)) (λ n. report_done n info (response.ExecutionResult n.regs.error)) (λ n left. ⊥)
error_inside m info = record { refused = refl; done = refl; stops = λ now left. left }

pub status_inside : (m : Machine) (info : QueryInfo)
    → IsInside (Instruction-F.ReportTransactStatus info) m (fee_to m.part info.destination) (λ n. report_refused n info (response.DispatchResult n.regs.status)) (λ n. report_done n info (response.DispatchResult n.regs.status)) (λ n left. ⊥)
status_inside m info = record { refused = refl; done = refl; stops = λ now left. left }

pub holding_inside : (m : Machine) (info : QueryInfo) (filter : Filter)
    → IsInside (Instruction-F.ReportHolding info filter) m (fee_to m.part info.destination) (λ n. holding_report_refused n info (reported_list n info filter)) (λ n. holding_report_done n info (reported_list n info filter)) (λ n left. ⊥)
holding_inside m info filter = record { refused = refl; done = refl; stops = λ now left. left }

pub pallets_inside : (m : Machine) (name : List ℕ) (info : QueryInfo)
    → IsInside (Instruction-F.QueryPallet name info) m (fee_to m.part info.destination) (λ n. report_refused n info (response.PalletsInfo (pallets_of n.part name))) (λ n. report_done n info (response.PalletsInfo (pallets_of n.part name))) (λ n left. ⊥)
pallets_inside m name info = record { refused = refl; done = refl; stops = λ now left. left }
