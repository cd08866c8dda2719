-- What every instruction keeps.
use Rattle.std.proofs.Common.{◌≡◌, ℕ, Bool, true, false, List, [], ◌∷◌, ◌++◌, Option, Some, None, refl, sym, ap, ◌∙◌, subst}
use Rattle.std.specs.Prelude.{nat_le, length}
use Rattle.amounts.specs.Amounts.{empty}
use Rattle.locations.specs.declared.relative.Location.{Location}
use Rattle.operands.specs.declared.pallet.PalletInfo.{PalletInfo}
use Rattle.operands.specs.declared.query.QueryInfo.{QueryInfo}
use Rattle.operands.specs.declared.query.Response.TheVariants as response
use Rattle.operands.specs.declared.weight.Weight.{Weight}
use Rattle.operands.specs.declared.weight.WeightLimit.TheVariants.{Unlimited, Limited}
use Rattle.asset_lists.specs.declared.units.Asset.{Asset}
use Rattle.asset_bundles.specs.Bundles.{Bundle}
use Rattle.asset_bundles.specs.Books.{AreListed}
use Rattle.trust_tables.specs.Trust.{listing}
use Rattle.xcm_program.specs.declared.instruction.Instruction.{Instruction, out-Instruction}
use Rattle.xcm_program.specs.declared.instruction.Instruction.TheOpen.{Instruction-F}
use Rattle.call_dispatch.specs.Spelling.{AnyCall}
use Rattle.exec_base.specs.declared.registers.Registers.{Registers}
use Rattle.exec_base.specs.Part.{ChainPart}
use Rattle.exec_base.specs.Host.{fee_to}
use Rattle.exec_rules.specs.Machine.{Machine, machine}
use Rattle.exec_rules.specs.Calls.{call_in, caller_in}
use Rattle.exec_rules.specs.Holdings.{refund_now}
use Rattle.exec_rules.specs.Fees.{after_fee}
use Rattle.exec_rules.specs.Reports.{reported_list}
use Rattle.exec_rules.specs.Expectations.{pallet_at}
use Rattle.exec_rules.specs.Instructions.{refused, done, xcm}
use Rattle.exec_rules.specs.Readiness.{IsAtRest, IsSteady}
use Rattle.exec_rules.specs.HostCalls.{MachineWithGoods, between, MachineCall, after, after_all, charge, around, refunding, report_calls, size_tests, holding_report, pallet_tests, dispatching, calls, turned_at}
use Rattle.exec_rules.proofs.Lemmas.CallLaws.{after_both, charge_after, done_is}
use Rattle.exec_rules.specs.Reasons.{IsFrom}
use Rattle.exec_rules.proofs.Lemmas.ReasonLaws.{turns, done_keeps}
use Rattle.exec_rules.proofs.Lemmas.StopLaws.{charge_parks}
use Rattle.exec_rules.proofs.Lemmas.ListingLaws.{nothing_listed, HasListed, listed_after}

-- ---- an instruction parks nothing, and leaves no fee in the slot
abbrev LeavesNothingAside : List MachineCall → Machine → Type 0
LeavesNothingAside cs m =
    let t = after_all cs (between m) in
    (t.part.parked ≡ m.part.parked) × (m.part.fee_slot ≡ empty → t.part.fee_slot ≡ empty)

around_aside : (o : Option Asset) (m : Machine) (inside : Machine → List MachineCall) → ((n : Machine) → LeavesNothingAside (inside n) n) → LeavesNothingAside (around o m inside) m
around_aside None m inside aside = aside m
around_aside (Some fee) m inside aside =
    let n = after_fee m fee in
    let ends : after_all (charge m fee ++ (inside n ++ MachineCall.KeepFee ∷ [])) (between m) ≡ after MachineCall.KeepFee (after_all (inside n) (between n)) =
    after_both (charge m fee) (inside n ++ MachineCall.KeepFee ∷ []) (between m)
    ∙ ap (after_all (inside n ++ MachineCall.KeepFee ∷ [])) (charge_after m fee)
    ∙ after_both (inside n) (MachineCall.KeepFee ∷ []) (between n) in
    (ap (λ (t : MachineWithGoods). t.part.parked) ends ∙ (aside n).0 ∙ charge_parks m fee, λ none. ap (λ (t : MachineWithGoods). t.part.fee_slot) ends)

refund_aside : (m : Machine) (o : Option (Location × ℕ)) → LeavesNothingAside (refunding m o) m
refund_aside m None = (refl, λ none. none)
refund_aside m (Some given) = (refl, λ none. none)

report_aside : (n : Machine) (info : QueryInfo) (o : Option (List Asset)) → LeavesNothingAside (holding_report n info o) n
report_aside n info None = (refl, λ none. none)
report_aside n info (Some list) = by_length (nat_le (length list) 20)
  where
    by_length : (b : Bool) → LeavesNothingAside (size_tests n info b ++ report_calls n info (response.Assets list)) n
    by_length true = (refl, λ none. none)
    by_length false = (refl, λ none. none)

pallet_aside : (m : Machine) (o : Option PalletInfo) (name module_name : List ℕ) (major least_minor : ℕ) → LeavesNothingAside (pallet_tests o name module_name major least_minor) m
pallet_aside m None name module_name major least_minor = (refl, λ none. none)
pallet_aside m (Some info) name module_name major least_minor = (refl, λ none. none)

dispatching_aside : (m : Machine) (most : Weight) (c : Option AnyCall) (account : Option (List ℕ)) → LeavesNothingAside (dispatching m most c account) m
dispatching_aside m most None account = (refl, λ none. none)
dispatching_aside m most (Some c) None = (refl, λ none. none)
dispatching_aside m most (Some c) (Some account) = (refl, λ none. none)

abbrev of_origin : Registers → Option Location → ChainPart → Machine
of_origin r o p = machine (record r { origin = o }) p

-- those that send are inside of a fee; of the others the calls compute, where it is known whether the origin register is empty
aside_by : (l : Instruction-F Instruction) (r : Registers) (o : Option Location) (p : ChainPart) → LeavesNothingAside (calls l (of_origin r o p)) (of_origin r o p)
aside_by (Instruction-F.BuyExecution fees Unlimited) r o p = (refl, λ none. none)
aside_by (Instruction-F.BuyExecution fees (Limited w)) r o p = (refl, λ none. none)
aside_by Instruction-F.RefundSurplus r o p = refund_aside (of_origin r o p) (refund_now (of_origin r o p))
aside_by (Instruction-F.TransferReserveAsset list dest program) r None p = (refl, λ none. none)
aside_by (Instruction-F.TransferReserveAsset list dest program) r (Some who) p =
    around_aside (fee_to p dest) (of_origin r (Some who) p) _ (λ n. (refl, λ none. none))
aside_by (Instruction-F.DepositReserveAsset filter dest program) r o p =
    around_aside (fee_to p dest) (of_origin r o p) _ (λ n. (refl, λ none. none))
aside_by (Instruction-F.InitiateReserveWithdraw filter dest program) r o p =
    around_aside (fee_to p dest) (of_origin r o p) _ (λ n. (refl, λ none. none))
aside_by (Instruction-F.InitiateTeleport filter dest program) r o p =
    around_aside (fee_to p dest) (of_origin r o p) _ (λ n. (refl, λ none. none))
aside_by (Instruction-F.ReportError info) r o p =
    around_aside (fee_to p info.destination) (of_origin r o p) _ (λ n. (refl, λ none. none))
aside_by (Instruction-F.ReportHolding info filter) r o p =
    around_aside (fee_to p info.destination) (of_origin r o p) _ (λ n. report_aside n info (reported_list n info filter))
aside_by (Instruction-F.QueryPallet name info) r o p =
    around_aside (fee_to p info.destination) (of_origin r o p) _ (λ n. (refl, λ none. none))
aside_by (Instruction-F.ReportTransactStatus info) r o p =
    around_aside (fee_to p info.destination) (of_origin r o p) _ (λ n. (refl, λ none. none))
aside_by (Instruction-F.ExpectPallet place name module_name major least_minor) r o p =
    pallet_aside (of_origin r o p) (pallet_at (of_origin r o p) place) name module_name major least_minor
aside_by (Instruction-F.Transact kind most bytes) r None p = (refl, λ none. none)
aside_by (Instruction-F.Transact kind most bytes) r (Some who) p =
    let m = of_origin r (Some who) p in
    dispatching_aside m most (call_in p.calls bytes) (caller_in m kind who)
aside_by (Instruction-F.LockAsset asset unlocker) r None p = (refl, λ none. none)
aside_by (Instruction-F.LockAsset asset unlocker) r (Some who) p =
    around_aside (fee_to p unlocker) (of_origin r (Some who) p) _ (λ n. (refl, λ none. none))
aside_by (Instruction-F.RequestUnlock asset locker) r None p = (refl, λ none. none)
aside_by (Instruction-F.RequestUnlock asset locker) r (Some who) p =
    around_aside (fee_to p locker) (of_origin r (Some who) p) _ (λ n. (refl, λ none. none))
aside_by _ r None p = (refl, λ none. none)
aside_by _ r (Some who) p = (refl, λ none. none)

none_aside : (l : Instruction-F Instruction) (m : Machine) → LeavesNothingAside (calls l m) m
none_aside l m = aside_by l m.regs m.regs.origin m.part

-- ---- so a steady machine stays steady
turned_listed : (l : Instruction-F Instruction) (m : Machine) (t : MachineWithGoods) → IsFrom m t → HasListed t → HasListed (turned_at l m t)
turned_listed l m t from h = (subst (AreListed (listing t.part.rows)) (sym (turns l m t from).holding) h.0, h.1, h.2, h.3)

steady_done : (l : Instruction-F Instruction) (m : Machine) → IsSteady m → refused l m ≡ None → IsSteady (done l m)
steady_done l m steady ok =
    let listed = listing m.part.rows in
    let order = steady.rest.order in
    let slot = subst (AreListed listed) (sym steady.rest.slot) (nothing_listed listed) in
    let first : HasListed (between m) = (steady.holding, nothing_listed listed, slot, (order.traps, order.rates, order.paid, order.pools)) in
    let left = done_keeps l m HasListed (λ c t asks from free h. listed_after c t free h) (turned_listed l m) ok first in
    record {
      rest = record {
        order = record {
          traps = left.3.0;
          rates = left.3.1;
          paid = left.3.2;
          pools = left.3.3;
          unparked = ap (λ (t : MachineWithGoods). t.part.parked) (done_is l m) ∙ (none_aside l m).0 ∙ order.unparked;
        };
        slot = ap (λ (t : MachineWithGoods). t.part.fee_slot) (done_is l m) ∙ (none_aside l m).1 steady.rest.slot;
      };
      holding = left.0;
    }

pub steady_after : (x : Instruction) (m : Machine) → IsSteady m → xcm.refusal_of x m ≡ None → IsSteady (xcm.done x m)
steady_after x m steady ok = steady_done (out-Instruction x) m steady ok

-- other registers, that hold the same
pub registers_steady : (m n : Machine) → IsSteady m → n.part ≡ m.part → n.regs.holding ≡ m.regs.holding → IsSteady n
registers_steady m n steady part holding = record {
  rest = subst IsAtRest (sym part) steady.rest;
  holding = subst (λ (p : ChainPart). AreListed (listing p.rows) n.regs.holding) (sym part) (subst (λ (b : Bundle). AreListed (listing m.part.rows) b) (sym holding) steady.holding);
}
