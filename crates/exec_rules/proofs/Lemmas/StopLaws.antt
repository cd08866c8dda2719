-- Lemmas that proofs cite, in this crate and above it: where memory stops an instruction, accepted calls led there. A reader of the contracts
-- may skip this file.
use Rattle.std.proofs.Common.{◌≡◌, ◌⊎◌, ℕ, Bool, true, false, List, [], ◌∷◌, ◌++◌, Option, Some, None, ⊎_elim, inr, refl, sym, ap, ◌∙◌, subst}
use Rattle.std.specs.List.{AllByRecursion}
use Rattle.std.specs.Prelude.{if◌then◌else◌, length}
use Rattle.locations.specs.declared.relative.Location.{Location}
use Rattle.operands.specs.declared.error.XcmError.{XcmError}
use Rattle.operands.specs.declared.error.XcmError.TheVariants as error
use Rattle.operands.specs.declared.origin.OriginKind.{OriginKind}
use Rattle.operands.specs.declared.weight.Weight.{Weight}
use Rattle.operands.specs.declared.weight.WeightLimit.{WeightLimit}
use Rattle.operands.specs.declared.weight.WeightLimit.TheVariants.{Unlimited, Limited}
use Rattle.asset_lists.specs.declared.units.Asset.{Asset}
use Rattle.asset_lists.specs.declared.filters.Filter.{Filter}
use Rattle.asset_lists.specs.declared.filters.Filter.TheVariants.{Definite}
use Rattle.asset_bundles.specs.Bundles.{Bundle, bundle_of}
use Rattle.xcm_program.specs.declared.instruction.Instruction.{Instruction}
use Rattle.xcm_program.specs.declared.instruction.Instruction.TheOpen.{Instruction-F}
use Rattle.ledgers.specs.Ledgers.{Held}
use Rattle.call_dispatch.specs.declared.call.Call.TheVariants.{Batch}
use Rattle.call_dispatch.specs.Spelling.{AnyCall}
use Rattle.row_ledger.proofs.Lemmas.AccountLaws.{front_called}
use Rattle.exec_base.specs.declared.registers.Registers.{Registers}
use Rattle.exec_base.specs.Part.{ChainPart}
use Rattle.exec_base.specs.Sending.{unless, or_else}
use Rattle.exec_base.specs.Host.{receive_refusal, unspent, bought, refund_goods, parked, fee_to, fee_taken}
use Rattle.exec_base.specs.Calls.{floors_of}
use Rattle.exec_base.specs.Pools.{exchanged, exchange_goods}
use Rattle.exec_rules.specs.Machine.{Machine, machine}
use Rattle.exec_rules.proofs.Lemmas.AnswerLaws.{unless_held, unless_next}
use Rattle.exec_rules.specs.Holdings.{with_origin, at_origin, has_room, holds_asset, taken_of, holding_left, holding_paid, payment_of, is_ticket, not_refunded, buying_refusal}
use Rattle.exec_rules.specs.Fees.{after_fee}
use Rattle.exec_rules.specs.Calls.{call_in, caller_in, CallStops, CallStopsAt}
use Rattle.exec_rules.specs.Instructions.{refused}
use Rattle.exec_rules.specs.Stopping.{parking, UnjoinedOnOom, NotPutBack, BuyingStops, ExchangeStops, fee_parked, StopsAround, PartwayOnOom, LeftOnOom}
use Rattle.exec_rules.specs.HostCalls.{MachineWithGoods, between, MachineCall, why_not, after, after_all, refusal_along, for_origin, charge}
use Rattle.exec_rules.proofs.Lemmas.HostCalls.{effect}
use Rattle.exec_rules.proofs.Lemmas.Footprints.{part_is}
use Rattle.exec_rules.proofs.Lemmas.CallLaws.{along_both, after_both, charge_refused, charge_after}
use Rattle.exec_rules.specs.Reasons.{destination, Moment, HasReason, HaveReasons, ComesBeforeStop, IsLedFrom, IsLedTo}
use Rattle.exec_rules.proofs.Lemmas.ReasonLaws.{asked_both, early_both, charge_asked, charge_early, speaks_by}

-- ---- what is in hand is parked
pub parked_is : (r : Registers) (p q : ChainPart) (goods : Bundle) → p ≡ q → after MachineCall.Park (record { regs = r; part = p; goods = goods }) ≡ between (machine r (parked q goods))
parked_is r p q goods same =
    ap (λ (x : ChainPart). between (machine r x)) (part_is MachineCall.Park (record { regs = r; part = p; goods = goods }))
    ∙ ap (λ (x : ChainPart). between (machine r (parked x goods))) same

none_else : (o : Option XcmError) → o ≡ None → or_else o None ≡ None
none_else None e = refl
none_else (Some x) e = absurd cc

two_none : (a b : Option XcmError) → a ≡ None → b ≡ None → or_else a b ≡ None
two_none None b e f = f
two_none (Some x) b e f = absurd cc

held_none : (ok : Bool) (e : XcmError) → ok ≡ true → unless ok e None ≡ None
held_none true e h = refl
held_none false e h = absurd cc

-- a fee parks nothing
pub charge_parks : (m : Machine) (fee : Asset) → (after_fee m fee).part.parked ≡ m.part.parked
charge_parks m fee = sym (ap (λ (t : MachineWithGoods). t.part.parked) (charge_after m fee)) ∙ by_mode m.regs.fees_mode
  where
    by_account : (o : Option Location) → (after_all (for_origin o (λ who. MachineCall.Draw fee who ∷ MachineCall.HoldFee ∷ [])) (between m)).part.parked ≡ m.part.parked
    by_account None = refl
    by_account (Some who) = refl

    by_mode : (b : Bool) → (after_all (if b then for_origin m.regs.origin (λ who. MachineCall.Draw fee who ∷ MachineCall.HoldFee ∷ []) else MachineCall.Pay fee ∷ MachineCall.HoldFee ∷ []) (between m)).part.parked ≡ m.part.parked
    by_mode true = by_account m.regs.origin
    by_mode false = refl

module _ (l : Instruction-F Instruction) (m : Machine) where
  lead_as : (t : MachineWithGoods) (now k : Machine) → now ≡ k → IsLedFrom l m t k → IsLedFrom l m t now
  lead_as t now k e led = record { made = led.made; asked = led.asked; early = led.early; free = led.free; there = ap (λ (x : Machine). between x) e ∙ led.there }

  lead_nowhere : (k : Machine) → IsLedFrom l m (between k) k
  lead_nowhere k = record { made = []; asked = tt; early = tt; free = refl; there = refl }

  -- some accepted calls first
  lead_before : (cs : List MachineCall) (t u : MachineWithGoods) (now : Machine) → HaveReasons l m cs t → AllByRecursion ComesBeforeStop cs → refusal_along cs t ≡ None → after_all cs t ≡ u → IsLedFrom l m u now → IsLedFrom l m t now
  lead_before cs t u now asks early free there led =
      let next : IsLedFrom l m (after_all cs t) now = subst (λ (x : MachineWithGoods). IsLedFrom l m x now) (sym there) led in
      record {
        made = cs ++ next.made;
        asked = asked_both l m cs next.made t asks next.asked;
        early = early_both cs next.made early next.early;
        free = along_both cs next.made t ∙ two_none _ _ free next.free;
        there = next.there ∙ sym (after_both cs next.made t);
      }

  -- ---- goods had come, and weren't joined
  came : (c : MachineCall) (goods : Bundle) → ComesBeforeStop c → HasReason Moment.Inside l m (between m) c → why_not c (between m) ≡ None → (let t = after c (between m) in (t.regs ≡ m.regs) × (t.goods ≡ goods) × (t.part.parked ≡ m.part.parked)) → IsLedTo l m (parking m (effect c (between m)) goods)
  came c goods early asks free is = record {
    made = c ∷ MachineCall.Park ∷ [];
    asked = (asks, (is.2, tt));
    early = (early, (tt, tt));
    free = none_else (why_not c (between m)) free;
    there = sym (ap (λ (t : MachineWithGoods). after MachineCall.Park t) (same_midway (after c (between m)) goods is) ∙ parked_is m.regs (after c (between m)).part (effect c (between m)) goods (part_is c (between m)));
  }
    where
      same_midway : (t : MachineWithGoods) (goods : Bundle) → (t.regs ≡ m.regs) × (t.goods ≡ goods) × (t.part.parked ≡ m.part.parked) → ◌≡◌ {A = MachineWithGoods} t (record { regs = m.regs; part = t.part; goods = goods })
      same_midway t goods is = λ i. record { regs = is.0 i; part = t.part; goods = is.1 i }

  came_by : (o : Option Location) (rule : Location → Option XcmError) (change : Location → ChainPart) (goods : Bundle) → m.regs.origin ≡ o → with_origin o rule ≡ None
      → ((who : Location) → m.regs.origin ≡ Some who → rule who ≡ None → IsLedTo l m (parking m (change who) goods)) → IsLedTo l m (at_origin o (λ who. parking m (change who) goods) m)
  came_by None rule change goods is ok led = absurd cc
  came_by (Some who) rule change goods is ok led = led who is ok

  -- ---- what a filter took
  not_put_back : (k : Machine) (filter : Filter) → k.part.parked ≡ m.part.parked → IsLedFrom l m (between k) (holding_left k filter (parked k.part (taken_of k filter)))
  not_put_back k filter none = record {
    made = MachineCall.Take filter ∷ MachineCall.Park ∷ [];
    asked = (refl, (none, tt));
    early = (tt, (tt, tt));
    free = refl;
    there = sym (let t = after (MachineCall.Take filter) (between k) in parked_is t.regs k.part k.part t.goods refl);
  }

  -- ---- around a fee
  fee_aside : (k : Machine) → k.part.parked ≡ m.part.parked → IsLedFrom l m (between k) (fee_parked k)
  fee_aside k none = record {
    made = MachineCall.TakeFee ∷ MachineCall.Park ∷ [];
    asked = (refl, (none, tt));
    early = (tt, (tt, tt));
    free = refl;
    there = sym (parked_is k.regs (after MachineCall.TakeFee (between k)).part (fee_taken k.part) k.part.fee_slot (part_is MachineCall.TakeFee (between k)));
  }

  around_stops : (dest : Location) (o : Option Asset) (inside : Machine → Machine → Type 0) (now : Machine) → destination l ≡ Some dest → fee_to m.part dest ≡ o
      → ((k : Machine) → k.part.parked ≡ m.part.parked → inside k now → IsLedFrom l m (between k) now) → StopsAround o m inside now → IsLedTo l m now
  around_stops dest None inside now goes is led stops = led m refl stops
  around_stops dest (Some fee) inside now goes is led stops =
      let n = after_fee m fee in
      let first : IsLedFrom l m (between n) now → IsLedTo l m now = lead_before (charge m fee) (between m) (between n) now (charge_asked l m fee (dest, goes, is)) (charge_early l m fee) (sym (charge_refused m fee) ∙ stops.0) (charge_after m fee) in
      first (⊎_elim (λ (e : now ≡ n). lead_as (between n) now n e (lead_nowhere n))
      (λ (e : inside n now ⊎ (now ≡ fee_parked n)).
      ⊎_elim (λ (i : inside n now). led n (charge_parks m fee) i) (λ (i : now ≡ fee_parked n). lead_as (between n) now (fee_parked n) i (fee_aside n (charge_parks m fee))) e) stops.1)

-- ---- purchases
buying_stops : (m : Machine) (fees : Asset) (limit : WeightLimit) (now : Machine) → BuyingStops m fees limit now → IsLedTo (Instruction-F.BuyExecution fees limit) m now
buying_stops m fees Unlimited now stops = absurd stops
buying_stops m fees (Limited w) now stops =
    let l = Instruction-F.BuyExecution fees (Limited w) in
    let t = after (MachineCall.Pay fees) (between m) in
    ⊎_elim
    (λ (e : (holds_asset m fees ≡ true) × (now ≡ parking (holding_paid m fees) m.part (payment_of fees))). lead_as l m (between m) now _ e.1 (record {
      made = MachineCall.Pay fees ∷ MachineCall.Park ∷ [];
      asked = ((refl, inr (w, refl)), (refl, tt));
      early = (tt, (tt, tt));
      free = none_else _ (held_none (holds_asset m fees) error.NotHoldingFees e.0);
      there = sym (parked_is t.regs m.part m.part (payment_of fees) refl);
    }))
    (λ (e : (buying_refusal m fees (Limited w) ≡ None) × (now ≡ parking (holding_paid m fees) (bought m.part w (payment_of fees)) (unspent m.part w (payment_of fees)))). lead_as l m (between m) now _ e.1 (record {
      made = MachineCall.Pay fees ∷ MachineCall.Buy w ∷ MachineCall.Park ∷ [];
      asked = ((refl, inr (w, refl)), ((fees, refl, refl), (refl, tt)));
      early = (tt, (tt, (tt, tt)));
      free = two_none _ _ (held_none (holds_asset m fees) error.NotHoldingFees (unless_held _ error.NotHoldingFees _ e.0)) (none_else _ (unless_next (holds_asset m fees) error.NotHoldingFees _ e.0));
      there = sym (parked_is t.regs (after (MachineCall.Buy w) t).part (effect (MachineCall.Buy w) t) (unspent m.part w (payment_of fees)) (part_is (MachineCall.Buy w) t));
    })) stops

-- ---- exchanges
exchange_stops : (m : Machine) (filter : Filter) (list : List Asset) (maximal : Bool) (now : Machine) → ExchangeStops m filter list maximal now → IsLedTo (Instruction-F.ExchangeAsset filter list maximal) m now
exchange_stops m filter list maximal now stops =
    let l = Instruction-F.ExchangeAsset filter list maximal in
    let c = MachineCall.Exchange list maximal in
    let t = after (MachineCall.Take filter) (between m) in
    ⊎_elim (λ (e : NotPutBack m filter now). lead_as l m (between m) now _ e (not_put_back l m m filter refl))
    (λ (e : (refused l m ≡ None) × (now ≡ parking (holding_left m filter m.part) (exchanged m.part t.goods list maximal) (exchange_goods m.part t.goods list maximal))).
    lead_as l m (between m) now _ e.1 (record {
      made = MachineCall.Take filter ∷ c ∷ MachineCall.Park ∷ [];
      asked = (refl, ((filter, refl, refl), (refl, tt)));
      early = (tt, (tt, (tt, tt)));
      free = none_else (why_not c t) (unless_next (has_room m (length list)) _ _ e.0);
      there = sym (parked_is t.regs (after c t).part (effect c t) (exchange_goods m.part t.goods list maximal) (part_is c t));
    })) stops

-- ---- each instruction
not_joined : (l : Instruction-F Instruction) (m : Machine) (rule : Location → Option XcmError) (change : Location → ChainPart) (goods : Bundle) (now : Machine) → refused l m ≡ with_origin m.regs.origin rule → UnjoinedOnOom l m change goods now
    → ((who : Location) → m.regs.origin ≡ Some who → rule who ≡ None → IsLedTo l m (parking m (change who) goods)) → IsLedTo l m now
not_joined l m rule change goods now is stops led = lead_as l m (between m) now _ stops.1 (came_by l m m.regs.origin rule change goods refl (sym is ∙ stops.0) led)

-- a prefix of a batch was done
call_stops : (m now : Machine) (kind : OriginKind) (most : Weight) (bytes : List ℕ) (who : Location) (c : Option AnyCall) (o : Option (List ℕ)) → m.regs.origin ≡ Some who → caller_in m kind who ≡ o → CallStops m c o now → IsLedTo (Instruction-F.Transact kind most bytes) m now
call_stops m now kind most bytes who None o is e stops = absurd stops
call_stops m now kind most bytes who (Some c) None is e stops = absurd stops
call_stops m now kind most bytes who (Some c) (Some account) is e stops =
    let part = stops.in_part in
    record {
      made = MachineCall.Dispatch account (Batch part.in_part.interrupted.front) ∷ [];
      asked = ((refl, speaks_by m kind who account is e, tt), tt);
      early = (tt, tt);
      free = refl;
      there = ap (λ (k : Machine). between k) stops.is
          ∙ ap (λ (p : ChainPart). between (machine m.regs p)) (part.is ∙ ap (λ (held : Held). let p : ChainPart = record m.part { held = held } in p)
          (front_called m.part.rows m.part.held (floors_of m.part) account c part.held part.in_part));
    }

call_stops_at : (m now : Machine) (kind : OriginKind) (most : Weight) (bytes : List ℕ) (o : Option Location) → m.regs.origin ≡ o → CallStopsAt m kind bytes o now → IsLedTo (Instruction-F.Transact kind most bytes) m now
call_stops_at m now kind most bytes None is stops = absurd stops
call_stops_at m now kind most bytes (Some who) is stops = call_stops m now kind most bytes who (call_in m.part.calls bytes) (caller_in m kind who) is refl stops

pub stops_lead : (l : Instruction-F Instruction) (m now : Machine) → PartwayOnOom l m now → IsLedTo l m now
stops_lead (Instruction-F.WithdrawAsset list) m now stops = not_joined (Instruction-F.WithdrawAsset list) m _ _ (bundle_of list) now refl stops
    (λ who is ok. came (Instruction-F.WithdrawAsset list) m (MachineCall.Withdraw list who) (bundle_of list) tt (refl, is, refl) (unless_next (has_room m (length list)) _ _ ok) (refl, refl, refl))
stops_lead (Instruction-F.ReserveAssetDeposited list) m now stops = not_joined (Instruction-F.ReserveAssetDeposited list) m _ _ (bundle_of list) now refl stops
    (λ who is ok. came (Instruction-F.ReserveAssetDeposited list) m (MachineCall.Receive list m.regs.origin false) (bundle_of list) tt (refl, refl, refl) (ap (λ (o : Option Location). with_origin o (λ who. receive_refusal m.part list who false)) is ∙ unless_next (has_room m (length list)) _ _ ok) (refl, refl, refl))
stops_lead (Instruction-F.ReceiveTeleportedAsset list) m now stops = not_joined (Instruction-F.ReceiveTeleportedAsset list) m _ _ (bundle_of list) now refl stops
    (λ who is ok. came (Instruction-F.ReceiveTeleportedAsset list) m (MachineCall.Receive list m.regs.origin true) (bundle_of list) tt (refl, refl, refl) (ap (λ (o : Option Location). with_origin o (λ who. receive_refusal m.part list who true)) is ∙ unless_next (has_room m (length list)) _ _ ok) (refl, refl, refl))
stops_lead (Instruction-F.ClaimAsset list ticket) m now stops = not_joined (Instruction-F.ClaimAsset list ticket) m _ _ (bundle_of list) now refl stops
    (λ who is ok. came (Instruction-F.ClaimAsset list ticket) m (MachineCall.Claim list who) (bundle_of list) tt (refl, is, (ticket, refl)) (unless_next (is_ticket ticket) _ _ (unless_next (has_room m (length list)) _ _ ok)) (refl, refl, refl))
stops_lead (Instruction-F.DepositAsset filter who) m now stops = lead_as (Instruction-F.DepositAsset filter who) m (between m) now _ stops (not_put_back (Instruction-F.DepositAsset filter who) m m filter refl)
stops_lead (Instruction-F.BurnAsset list) m now stops = lead_as (Instruction-F.BurnAsset list) m (between m) now _ stops (not_put_back (Instruction-F.BurnAsset list) m m (Definite list) refl)
stops_lead (Instruction-F.BuyExecution fees limit) m now stops = buying_stops m fees limit now stops
stops_lead Instruction-F.RefundSurplus m now stops = lead_as Instruction-F.RefundSurplus m (between m) now _ stops.1 (came Instruction-F.RefundSurplus m (MachineCall.Refund (not_refunded m)) (refund_goods m.part (not_refunded m)) tt (refl, refl) refl (refl, refl, refl))
stops_lead (Instruction-F.ExchangeAsset filter list maximal) m now stops = exchange_stops m filter list maximal now stops
stops_lead (Instruction-F.TransferReserveAsset list dest xcm) m now stops = around_stops (Instruction-F.TransferReserveAsset list dest xcm) m dest (fee_to m.part dest) (λ n left. ⊥) now refl refl (λ n none i. absurd i) stops
stops_lead (Instruction-F.DepositReserveAsset filter dest xcm) m now stops =
    around_stops (Instruction-F.DepositReserveAsset filter dest xcm) m dest (fee_to m.part dest) (λ n left. NotPutBack n filter left) now refl refl (λ n none i. lead_as (Instruction-F.DepositReserveAsset filter dest xcm) m (between n) now _ i (not_put_back (Instruction-F.DepositReserveAsset filter dest xcm) m n filter none)) stops
stops_lead (Instruction-F.InitiateReserveWithdraw filter dest xcm) m now stops =
    around_stops (Instruction-F.InitiateReserveWithdraw filter dest xcm) m dest (fee_to m.part dest) (λ n left. NotPutBack n filter left) now refl refl (λ n none i. lead_as (Instruction-F.InitiateReserveWithdraw filter dest xcm) m (between n) now _ i (not_put_back (Instruction-F.InitiateReserveWithdraw filter dest xcm) m n filter none)) stops
stops_lead (Instruction-F.InitiateTeleport filter dest xcm) m now stops =
    around_stops (Instruction-F.InitiateTeleport filter dest xcm) m dest (fee_to m.part dest) (λ n left. NotPutBack n filter left) now refl refl (λ n none i. lead_as (Instruction-F.InitiateTeleport filter dest xcm) m (between n) now _ i (not_put_back (Instruction-F.InitiateTeleport filter dest xcm) m n filter none)) stops
stops_lead (Instruction-F.ReportError info) m now stops = around_stops (Instruction-F.ReportError info) m info.destination (fee_to m.part info.destination) (λ n left. ⊥) now refl refl (λ n none i. absurd i) stops
stops_lead (Instruction-F.ReportHolding info filter) m now stops = around_stops (Instruction-F.ReportHolding info filter) m info.destination (fee_to m.part info.destination) (λ n left. ⊥) now refl refl (λ n none i. absurd i) stops
stops_lead (Instruction-F.QueryPallet name info) m now stops = around_stops (Instruction-F.QueryPallet name info) m info.destination (fee_to m.part info.destination) (λ n left. ⊥) now refl refl (λ n none i. absurd i) stops
stops_lead (Instruction-F.ReportTransactStatus info) m now stops = around_stops (Instruction-F.ReportTransactStatus info) m info.destination (fee_to m.part info.destination) (λ n left. ⊥) now refl refl (λ n none i. absurd i) stops
stops_lead (Instruction-F.Transact kind most bytes) m now stops = call_stops_at m now kind most bytes m.regs.origin refl stops
stops_lead (Instruction-F.LockAsset asset unlocker) m now stops = around_stops (Instruction-F.LockAsset asset unlocker) m unlocker (fee_to m.part unlocker) (λ n left. ⊥) now refl refl (λ n none i. absurd i) stops.1
stops_lead (Instruction-F.RequestUnlock asset locker) m now stops = around_stops (Instruction-F.RequestUnlock asset locker) m locker (fee_to m.part locker) (λ n left. ⊥) now refl refl (λ n none i. absurd i) stops.1
stops_lead _ m now stops = absurd stops

-- all as it was, or one of these
pub spilled_lead : (l : Instruction-F Instruction) (m now : Machine) → LeftOnOom l m now → IsLedTo l m now
spilled_lead l m now s = ⊎_elim (λ (e : now ≡ m). lead_as l m (between m) now m e (lead_nowhere l m m)) (λ (stops : PartwayOnOom l m now). stops_lead l m now stops) s
