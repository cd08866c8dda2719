-- Lemmas: each call at the end of a run moves goods inside its chain, and lowers no account; so does the end, also where memory stops it. A
-- reader may skip this file.
use Rattle.std.proofs.Common.{◌≡◌, ◌+◌, ◌-◌, ◌^◌, ◌≤◌, Bool, List, [], ◌∷◌, refl, sym, ap, subst, arith}
use Rattle.amounts.specs.Amounts.{total, merge}
use Rattle.amounts.proofs.Lemmas.AmountLaws.{total-empty}
use Rattle.operands.specs.declared.weight.Weight.{Weight}
use Rattle.asset_lists.specs.Units.{Unit}
use Rattle.asset_bundles.specs.Bundles.{Bundle}
use Rattle.asset_bundles.proofs.Lemmas.Bundles.{unit_keys}
use Rattle.asset_bundles.specs.Joins.{Joined}
use Rattle.asset_bundles.proofs.Lemmas.{taken_conserves}
use Rattle.weight_trader.specs.Purchases.{Line, AreWithinEnd}
use Rattle.weight_trader.specs.Refunds.{is_refunded, without_refund, Refunded, Closed}
use Rattle.weight_trader.proofs.Lemmas.ListedLaws.{changed_all}
use Rattle.weight_trader.specs.Laws.{MovesAreKept}
use Rattle.xcm_program.specs.declared.instruction.Instruction.TheOpen.{Instruction-F}
use Rattle.exec_base.specs.Part.{ChainPart}
use Rattle.exec_base.specs.Host.{refund_goods, refunded, settled}
use Rattle.exec_rules.specs.Machine.{Machine, machine}
use Rattle.exec_rules.specs.Outcome.{finished, HaltedAtEnd}
use Rattle.exec_rules.specs.Instructions.{xcm}
use Rattle.exec_rules.specs.Stopping.{leaves_on_oom}
use Rattle.exec_rules.specs.HostCalls.{MachineWithGoods, between, MachineCall, after}
use Rattle.exec_rules.proofs.Lemmas.HostCalls.{effect}
use Rattle.exec_rules.proofs.Lemmas.Footprints.{part_is}
use Rattle.exec_rules.specs.Reasons.{Moment, HasReason}
use Rattle.exec_rules.proofs.Lemmas.Reasons.{ComesAtEnd}
use Rattle.exec_rules.specs.Kept.{HoldsAtEnd}
use Rattle.exec_rules.proofs.Lemmas.Kept.{IsKeptAtEnd}
use Rattle.exec_rules.proofs.Lemmas.KeptLaws.{finished_kept, at_end_kept}
use Rattle.law_runs.specs.Sums.{Sum, none, HasRoom}
use Rattle.law_runs.proofs.Lemmas.Sums.{sum_of, with, nobody, Call}
use Rattle.law_runs.specs.Calls.{Trapping}
use Rattle.law_runs.proofs.Lemmas.Calls.{call_then, call_with, still, room_kept, room_with, joining, telling, answering, refunding, parking_goods, keeping, settling, trapping_goods}
use Rattle.law_runs.specs.Safety.{hold}
use Rattle.law_runs.proofs.Lemmas.Accepted.{pooled, hold_pooled, nothing_in_hand, taking_fee}

-- ---- what is paid for weight stays below its maximum
refunded_within : (p : ChainPart) (w : Weight) → AreWithinEnd p.lines → AreWithinEnd (refunded p w).lines
unfolding refunded Refunded
refunded_within p w h = changed_all (λ (line : Line). line.paid ≤ 2 ^ 128 - 1) (is_refunded w) (without_refund w) (λ line le. omega (arith, le)) p.lines h

closed_within : (lines : List Line) → AreWithinEnd (Closed lines)
closed_within [] = tt
closed_within (line ∷ lines) = (omega arith, closed_within lines)

settled_within : (p : ChainPart) → AreWithinEnd (settled p).lines
unfolding settled
settled_within p = closed_within p.lines

-- ---- the end of a run that began at a machine
pub record IsEnding (m : Machine) (t : MachineWithGoods) : Type 0 where
  pub call : Call nobody (hold m) (hold (pooled t)) m.part t.part
  pub paid : AreWithinEnd t.part.lines

pub begins_ending : (m : Machine) → AreWithinEnd m.part.lines → IsEnding m (between m)
begins_ending m within = record {
  call = call_with nobody none none (hold m) (hold (pooled (between m))) m.part m.part (still m.part m.part refl) (λ q. let e = hold_pooled (between m) q in let z = total-empty unit_keys q in omega (arith, e, z));
  paid = within;
}

module _ (moves : MovesAreKept) (trapping : Trapping) (m : Machine) (room : HasRoom (hold m) m.part) where
  room_at_end : (t : MachineWithGoods) → IsEnding m t → HasRoom (hold (pooled t)) t.part
  room_at_end t e = room_kept nobody (hold m) (hold (pooled t)) m.part t.part e.call room

  ends_on : (ins outs : Sum) (c : MachineCall) (t : MachineWithGoods) → Call nobody ins outs t.part (effect c t)
      → ((q : Unit → Bool) → total q t.regs.holding + total q t.goods + outs q ≡ total q (after c t).regs.holding + total q (after c t).goods + ins q) → AreWithinEnd (after c t).part.lines → IsEnding m t → IsEnding m (after c t)
  ends_on ins outs c t x sums within e =
      let u = after c t in
      record {
        call = call_then nobody (hold m) (hold (pooled t)) (hold (pooled u)) m.part t.part u.part e.call
            (subst (λ (p : ChainPart). Call nobody (hold (pooled t)) (hold (pooled u)) t.part p) (sym (part_is c t))
            (call_with nobody ins outs (hold (pooled t)) (hold (pooled u)) t.part (effect c t) x (λ q. let a = hold_pooled t q in let b = hold_pooled u q in let s = sums q in omega (arith, a, b, s))));
        paid = within;
      }

  closing : (k : Machine) (t : MachineWithGoods) (c : MachineCall) → HasReason Moment.AtEnd Instruction-F.RefundSurplus k t c → ComesAtEnd c → IsEnding m t → IsEnding m (after c t)
  closing k t (MachineCall.Check ok error) asks comes e = e
  closing k t (MachineCall.Take filter) asks comes e = ends_on none none (MachineCall.Take filter) t (still t.part t.part refl) (λ q. let z = nothing_in_hand t asks q in let s = taken_conserves q filter t.regs.holding in omega (arith, z, s)) e.paid e
  closing k t MachineCall.Join asks comes e =
      let both = with (sum_of t.regs.holding) (sum_of t.goods) in
      ends_on both (sum_of (Joined t.regs.holding t.goods)) MachineCall.Join t
      (joining t.part t.regs.holding t.goods (room_with (hold (pooled t)) both t.part (room_at_end t e) (λ q. let a = hold_pooled t q in omega (arith, a)))) (λ q. let z = total-empty unit_keys q in omega (arith, z)) e.paid e
  closing k t (MachineCall.Refund w) asks comes e = ends_on none (sum_of (refund_goods t.part w)) (MachineCall.Refund w) t (refunding moves t.part w e.paid)
      (λ q. let z = nothing_in_hand t (ap (λ (u : MachineWithGoods). u.goods) asks.0) q in omega (arith, z)) (refunded_within t.part w e.paid) e
  closing k t (MachineCall.Answer who query) asks comes e = ends_on none none (MachineCall.Answer who query) t (answering t.part who query) (λ q. omega arith) e.paid e
  closing k t MachineCall.TakeFee asks comes e = ends_on none (sum_of t.part.fee_slot) MachineCall.TakeFee t (taking_fee t.part) (λ q. let z = nothing_in_hand t asks q in omega (arith, z)) e.paid e
  closing k t MachineCall.KeepFee asks comes e = ends_on none none MachineCall.KeepFee t (keeping t.part (room_with (hold (pooled t)) none t.part (room_at_end t e) (λ q. omega arith))) (λ q. omega arith) e.paid e
  closing k t MachineCall.Park asks comes e = ends_on (sum_of t.goods) none MachineCall.Park t (parking_goods t.part t.goods) (λ q. let z = total-empty unit_keys q in omega (arith, z)) e.paid e
  closing k t MachineCall.Empty asks comes e = ends_on none none MachineCall.Empty t (still t.part t.part refl) (λ q. let y = nothing_in_hand t asks.1 q in let z = total-empty unit_keys q in omega (arith, y, z)) e.paid e
  closing k t (MachineCall.Tell event) asks comes e = ends_on none none (MachineCall.Tell event) t (telling t.part event) (λ q. omega arith) e.paid e
  closing k t MachineCall.Settle asks comes e = ends_on none none MachineCall.Settle t (settling moves t.part e.paid (room_with (hold (pooled t)) none t.part (room_at_end t e) (λ q. omega arith))) (λ q. omega arith) (settled_within t.part) e
  closing k t (MachineCall.Trap who) asks comes e = ends_on (sum_of t.goods) none (MachineCall.Trap who) t (trapping_goods trapping t.part t.goods who) (λ q. let z = total-empty unit_keys q in omega (arith, z)) e.paid e
  closing k t _ asks comes e = absurd comes

  pub ending_is_kept : IsKeptAtEnd (IsEnding m)
  ending_is_kept = record {
    closing = λ k t c before asks comes from ok e. closing k t c asks comes e;
    closed = λ t r holding origin e. record { call = subst (λ (b : Bundle). Call nobody (hold m) (sum_of (merge b t.goods)) m.part t.part) (sym holding) e.call; paid = e.paid };
  }

  -- nothing is held afterwards
  ended_call : (p : ChainPart) → HoldsAtEnd (IsEnding m) p → Call nobody (hold m) none m.part p
  ended_call p ends = call_with nobody (hold m) (hold (pooled (between (machine ends.regs p)))) (hold m) none m.part p ends.kept.call
      (λ q. let e = hold_pooled (between (machine ends.regs p)) q in let h = ap (total q) ends.nothing in let z = total-empty unit_keys q in omega (arith, e, h, z))

  pub finished_call : AreWithinEnd m.part.lines → Call nobody (hold m) none m.part (finished xcm m)
  finished_call within = ended_call (finished xcm m) (finished_kept (IsEnding m) ending_is_kept m (begins_ending m within))

  pub halted_call : AreWithinEnd m.part.lines → (now : ChainPart) → HaltedAtEnd xcm leaves_on_oom m now → Call nobody (hold m) none m.part now
  halted_call within now h = ended_call now (at_end_kept (IsEnding m) ending_is_kept m now h (begins_ending m within))
