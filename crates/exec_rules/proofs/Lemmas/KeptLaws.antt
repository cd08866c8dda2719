-- Lemmas that proofs cite, in this crate and above it: a fact that each call keeps, instructions, runs and executions keep, also where memory
-- is refused. A reader of the contracts may skip this file.
use Rattle.std.proofs.Common.{◌≡◌, ◌⊎◌, ℕ, zero, suc, ◌+◌, Bool, true, false, List, [], ◌∷◌, Option, Some, None, Result, Ok, Err, ⊎_elim, refl, sym, ap, ◌∙◌, subst, arith}
use Rattle.std.specs.Prelude.{⊤, if◌then◌else◌, nat_eq, length}
use Rattle.std.specs.List.{AllByRecursion}
use Rattle.std.specs.Ordering.{eq_by_cmp}
use Rattle.std.proofs.lemmas.Bool.Decides.{nat_tests}
use Rattle.amounts.specs.Amounts.{rows, empty}
use Rattle.amounts.proofs.Lemmas.AmountLaws.{amount-empty, same_amounts}
use Rattle.amounts.specs.Rows.{sum_where}
use Rattle.amounts.proofs.Lemmas.{amount-rows}
use Rattle.asset_lists.specs.Units.{unit_cmp}
use Rattle.asset_bundles.specs.Bundles.{Bundle}
use Rattle.asset_bundles.proofs.Lemmas.Bundles.{unit_keys}
use Rattle.locations.specs.declared.relative.Location.{Location}
use Rattle.operands.specs.declared.error.XcmError.{XcmError}
use Rattle.operands.specs.declared.weight.Weight.{Weight}
use Rattle.operands.specs.declared.weight.WeightLimit.TheVariants.{Limited}
use Rattle.asset_lists.specs.declared.units.Asset.{Asset}
use Rattle.asset_bundles.specs.declared.shipment.Way.{Way}
use Rattle.xcm_program.specs.declared.instruction.Instruction.{Instruction, out-Instruction, out-roll-Instruction}
use Rattle.xcm_program.specs.declared.instruction.Instruction.TheOpen.{Instruction-F}
use Rattle.xcm_program.specs.declared.outcome.Outcome.{Outcome}
use Rattle.exec_base.specs.declared.event.Event.{Event}
use Rattle.exec_base.specs.declared.event.Part.{Part}
use Rattle.exec_base.specs.declared.event.Part.TheVariants as parts
use Rattle.exec_base.specs.declared.registers.Registers.{Registers}
use Rattle.exec_base.specs.Part.{ChainPart}
use Rattle.exec_base.specs.Host.{told, settled, trapped}
use Rattle.exec_rules.specs.Machine.{Machine, machine, Performed}
use Rattle.exec_rules.specs.Run.{Stage, At, Ended, begin, to_appendix, to_handler, go_on, failed, without_handler, without_appendix, handler_dropped, traced, by_answer, next, steps, machine_of, left_after, run, still_to_run, Reaches, Halted, StoppedIn}
use Rattle.exec_rules.specs.Outcome.{owner_of, end_event, end_told, abandoned, refund_surplus, refunded_last, finished, HaltedAtEnd}
use Rattle.exec_rules.specs.Keeping.{IsAheadOf}
use Rattle.exec_rules.specs.Holdings.{with_holding, refund_now}
use Rattle.exec_rules.specs.Instructions.{refused, refusal_of, done, xcm}
use Rattle.exec_rules.specs.Stopping.{LeftOnOom, leaves_on_oom}
use Rattle.exec_rules.specs.declared.rules.ChainRules.{ChainRules}
use Rattle.exec_rules.specs.declared.admission.Admitted.{Admitted}
use Rattle.exec_rules.specs.Admission.{admitted}
use Rattle.exec_rules.specs.Execution.{first_machine, first_stage, last_machine, executed_by, executed, AbandonedIn, IsAbandoned}
use Rattle.exec_rules.specs.HostCalls.{MachineWithGoods, between, MachineCall, why_not, after, refund_noted, turned, turned_at}
use Rattle.exec_rules.proofs.Lemmas.Footprints.{part_is}
use Rattle.exec_rules.specs.Reasons.{IsFrom, IsFee, Moment, HasReason}
use Rattle.exec_rules.proofs.Lemmas.Reasons.{ComesAtEnd}
use Rattle.exec_rules.proofs.Lemmas.ReasonLaws.{stays_origin, turns, from_itself, done_keeps, lead_keeps}
use Rattle.exec_rules.proofs.Lemmas.StopLaws.{spilled_lead}
use Rattle.exec_rules.specs.Kept.{IsKeptByCalls, HoldsAtEnd}
use Rattle.exec_rules.proofs.Lemmas.Kept.{IsKeptAtEnd}

-- ---- the end of a run
refund_layer : out-Instruction refund_surplus ≡ Instruction-F.RefundSurplus
refund_layer = out-roll-Instruction Instruction-F.RefundSurplus

-- a bundle without rows is empty
none_of : {A : Type 0} (test : A → Bool) (rs : List (A × ℕ)) → length rs ≡ 0 → sum_where test rs ≡ 0
none_of test [] h = refl
none_of test (r ∷ rs) h = absurd (omega (arith, h))

no_rows : (b : Bundle) → nat_eq (length (rows b)) 0 ≡ true → b ≡ empty
no_rows b e = same_amounts unit_keys b empty (λ u.
    let all = amount-rows unit_keys b u in
    let none = none_of (eq_by_cmp unit_cmp u) (rows b) (grind (arith, nat_tests, e)) in
    let z = amount-empty unit_keys u in
    omega (arith, all, none, z))

-- what an instruction may ask, it may ask at the end
also_at_end : (l : Instruction-F Instruction) (m : Machine) (t : MachineWithGoods) (c : MachineCall) → HasReason Moment.Inside l m t c → HasReason Moment.AtEnd l m t c
also_at_end l m t MachineCall.Empty asks = absurd (cc asks.0)
also_at_end l m t (MachineCall.Tell e) asks = absurd (cc asks.0)
also_at_end l m t MachineCall.Settle asks = absurd (cc asks.0)
also_at_end l m t (MachineCall.Trap who) asks = absurd (cc asks)
also_at_end l m t _ asks = asks

no_fee_at_end : (m : Machine) (fee : Asset) → IsFee Instruction-F.RefundSurplus m fee → ⊥
no_fee_at_end m fee is = absurd (cc is.1)

-- RefundSurplus asks no more
comes_at_end : (m : Machine) (t : MachineWithGoods) (c : MachineCall) → HasReason Moment.Inside Instruction-F.RefundSurplus m t c → ComesAtEnd c
comes_at_end m t (MachineCall.Pay a) asks = ⊎_elim (λ (is : IsFee Instruction-F.RefundSurplus m a). no_fee_at_end m a is) (λ (is : (w : Weight) × (Instruction-F.RefundSurplus ≡ Instruction-F.BuyExecution a (Limited w))). absurd (cc is.1)) asks.1
comes_at_end m t (MachineCall.Withdraw list who) asks = absurd (cc asks.2)
comes_at_end m t (MachineCall.Draw fee who) asks = no_fee_at_end m fee asks.2
comes_at_end m t (MachineCall.Receive list from true) asks = absurd (cc asks.2)
comes_at_end m t (MachineCall.Receive list from false) asks = absurd (cc asks.2)
comes_at_end m t (MachineCall.Claim list who) asks = absurd (cc asks.2.1)
comes_at_end m t (MachineCall.Deposit who) asks = absurd (cc asks.1)
comes_at_end m t MachineCall.Burn asks = absurd (cc asks.1)
comes_at_end m t (MachineCall.Buy w) asks = absurd (cc asks.1)
comes_at_end m t (MachineCall.Exchange want maximal) asks = absurd (cc asks.1)
comes_at_end m t (MachineCall.DepositOut dest xcm) asks = absurd (cc asks.2.1)
comes_at_end m t (MachineCall.Ship Way.Withdrawal dest xcm) asks = absurd (cc asks.2.1)
comes_at_end m t (MachineCall.Ship Way.Teleport dest xcm) asks = absurd (cc asks.2.1)
comes_at_end m t (MachineCall.Transfer list from to) asks = absurd (cc asks.2)
comes_at_end m t (MachineCall.TransferOut list from dest xcm) asks = absurd (cc asks.2)
comes_at_end m t (MachineCall.Respond info answer querier) asks = absurd asks.2
comes_at_end m t (MachineCall.Dispatch who c) asks = absurd asks.2
comes_at_end m t (MachineCall.KeepBack e) asks = absurd asks
comes_at_end m t (MachineCall.Lock a owner unlocker) asks = absurd (cc asks.2)
comes_at_end m t (MachineCall.Unlock a target from) asks = absurd (cc asks.1)
comes_at_end m t (MachineCall.Note a owner from) asks = absurd (cc asks.1)
comes_at_end m t (MachineCall.Request a owner locker) asks = absurd (cc asks.2)
comes_at_end m t MachineCall.HoldFee asks = no_fee_at_end m asks.0 asks.1
comes_at_end m t _ asks = tt

-- the fact holds of a machine where nothing is in hand
abbrev Rests : (MachineWithGoods → Type 0) → Machine → Type 0
Rests K m = K (between m)

module _ (K : MachineWithGoods → Type 0) (kept : IsKeptAtEnd K) where
  pub told_rests : (m : Machine) (e : Event) → Rests K m → Rests K (machine m.regs (told m.part e))
  told_rests m e k = subst (λ (p : ChainPart). Rests K (machine m.regs p)) (part_is (MachineCall.Tell e) (between m)) (kept.closing m (between m) (MachineCall.Tell e) k (refl, refl) tt (from_itself m) refl k)

  settled_rests : (m : Machine) → Rests K m → Rests K (machine m.regs (settled m.part))
  settled_rests m k = subst (λ (p : ChainPart). Rests K (machine m.regs p)) (part_is MachineCall.Settle (between m)) (kept.closing m (between m) MachineCall.Settle k (refl, refl) tt (from_itself m) refl k)

  emptied : (m : Machine) → Rests K m → K (after MachineCall.Empty (between m))
  emptied m k = kept.closing m (between m) MachineCall.Empty k (refl, refl) tt (from_itself m) refl k

  from_emptied : (m : Machine) → IsFrom m (after MachineCall.Empty (between m))
  from_emptied m = record { regs = refl; settings = refl }

  trapped_rests : (m : Machine) (who : Location) → Rests K m → Rests K (machine (with_holding m.regs empty) (trapped m.part m.regs.holding who))
  trapped_rests m who k = let t = after MachineCall.Empty (between m) in
      subst (λ (p : ChainPart). Rests K (machine (with_holding m.regs empty) p)) (part_is (MachineCall.Trap who) t) (kept.closing m t (MachineCall.Trap who) k refl tt (from_emptied m) refl (emptied m k))

  pub abandoned_kept : (m : Machine) (now : ChainPart) → now ≡ abandoned m.regs m.part → Rests K m → HoldsAtEnd K now
  abandoned_kept m now is k = let t = after MachineCall.Empty (between m) in
      record {
        regs = with_holding m.regs empty;
        nothing = refl;
        kept = subst (λ (p : ChainPart). Rests K (machine (with_holding m.regs empty) p)) (sym is)
            (subst (λ (p : ChainPart). Rests K (machine (with_holding m.regs empty) p)) (part_is MachineCall.Park t) (kept.closing m t MachineCall.Park k refl tt (from_emptied m) refl (emptied m k)));
      }

  refund_done : (m : Machine) → refused Instruction-F.RefundSurplus m ≡ None → Rests K m → Rests K (done Instruction-F.RefundSurplus m)
  refund_done m free k =
      done_keeps Instruction-F.RefundSurplus m K (λ c t asks from ok kt. kept.closing m t c k (also_at_end Instruction-F.RefundSurplus m t c asks) (comes_at_end m t c asks) from ok kt) (λ t from kt. by_refund (refund_now m) t kt) free k
    where
      by_refund : (o : Option (Location × ℕ)) (t : MachineWithGoods) → K t → K (record t { regs = refund_noted m o t.regs })
      by_refund None t kt = kt
      by_refund (Some given) t kt = kept.closed t (refund_noted m (Some given) t.regs) refl refl kt

  last_by : (m : Machine) (o : Option XcmError) → refusal_of refund_surplus m ≡ o → Rests K m → Rests K (left_after xcm refund_surplus m o)
  last_by m None e k = subst (λ (l : Instruction-F Instruction). Rests K (done l m)) (sym refund_layer) (refund_done m (ap (λ (l : Instruction-F Instruction). refused l m) (sym refund_layer) ∙ e) k)
  last_by m (Some error) e k = k

  last_kept : (m : Machine) → Rests K m → Rests K (refunded_last xcm m)
  last_kept m k = last_by m (refusal_of refund_surplus m) refl k

  rest_kept : (b : Bool) (r : Registers) (p : ChainPart) → (b ≡ true → r.holding ≡ empty) → Rests K (machine r p) → HoldsAtEnd K (if b then p else trapped p r.holding (owner_of r))
  rest_kept true r p none k = record { regs = r; nothing = none refl; kept = k }
  rest_kept false r p none k = record { regs = with_holding r empty; nothing = refl; kept = trapped_rests (machine r p) (owner_of r) k }

  pub finished_kept : (m : Machine) → Rests K m → HoldsAtEnd K (finished xcm m)
  finished_kept m k =
      let last = refunded_last xcm m in
      rest_kept (nat_eq (length (rows last.regs.holding)) 0) last.regs (settled (end_told last)) (no_rows last.regs.holding) (settled_rests (machine last.regs (end_told last)) (told_rests last (end_event last.regs) (last_kept m k)))

  refund_spilled : (m now : Machine) (l : Instruction-F Instruction) → l ≡ Instruction-F.RefundSurplus → LeftOnOom l m now → Rests K m → Rests K now
  refund_spilled m now l is s k =
      lead_keeps Instruction-F.RefundSurplus m K (λ c t early asks from ok kt. kept.closing m t c k (also_at_end Instruction-F.RefundSurplus m t c asks) (comes_at_end m t c asks) from ok kt) now (spilled_lead Instruction-F.RefundSurplus m now (subst (λ (l : Instruction-F Instruction). LeftOnOom l m now) is s)) k

  pub at_end_kept : (m : Machine) (now : ChainPart) → HaltedAtEnd xcm leaves_on_oom m now → Rests K m → HoldsAtEnd K now
  at_end_kept m now h k =
      let last = refunded_last xcm m in
      let ended = last_kept m k in
      let told = told_rests last (end_event last.regs) ended in
      ⊎_elim (λ (s : (spilt : Machine) × leaves_on_oom refund_surplus m spilt × (now ≡ abandoned spilt.regs spilt.part)). abandoned_kept s.0 now s.2 (refund_spilled m s.0 (out-Instruction refund_surplus) refund_layer s.1 k))
      (λ rest. ⊎_elim (λ (e : now ≡ abandoned last.regs last.part). abandoned_kept last now e ended)
      (λ more. ⊎_elim (λ e. abandoned_kept (machine last.regs (end_told last)) now e told)
      (λ e. abandoned_kept (machine last.regs (settled (end_told last))) now e (settled_rests (machine last.regs (end_told last)) told)) more) rest) h

-- ---- one instruction, also where memory is refused
module _ (x : Instruction) (m : Machine) (K : MachineWithGoods → Type 0)
    (step : (c : MachineCall) (t : MachineWithGoods) → HasReason Moment.Inside (out-Instruction x) m t c → IsFrom m t → why_not c t ≡ None → K t → K (after c t)) (turn : (t : MachineWithGoods) → IsFrom m t → K t → K (turned_at (out-Instruction x) m t)) where
  pub spilled_keeps : (now : Machine) → leaves_on_oom x m now → K (between m) → K (between now)
  spilled_keeps now s k = lead_keeps (out-Instruction x) m K (λ c t early. step c t) now (spilled_lead (out-Instruction x) m now s) k

  performed_keeps : (now : Machine) (answer : Result (Unit {0}) XcmError) → Performed xcm x m answer now → K (between m) → K (between now)
  performed_keeps now (Ok d) p k = subst (λ (n : Machine). K (between n)) (sym p.1) (done_keeps (out-Instruction x) m K step turn p.0 k)
  performed_keeps now (Err e) p k = subst (λ (n : Machine). K (between n)) (sym p.1) k

  pub halted_keeps : (now : Machine) → Halted xcm leaves_on_oom x m now → K (between m) → K (between now)
  halted_keeps now h k =
      ⊎_elim (λ (s : leaves_on_oom x m now). spilled_keeps now s k) (λ (p : (answer : Result (Unit {0}) XcmError) × Performed xcm x m answer now). performed_keeps now p.0 p.1 k) h

-- ---- a fact that each call keeps
pub kept_at_end : (Q : Instruction → Type 0) (K : MachineWithGoods → Type 0) → IsKeptByCalls Q K → IsKeptAtEnd K
kept_at_end Q K kept = record {
  closing = λ m t c k asks comes from ok kt. kept.called refund_surplus Instruction-F.RefundSurplus refund_layer kept.refunds Moment.AtEnd m t c k asks from ok kt;
  closed = λ t r holding origin kt. kept.turned t r (stays_origin t.regs r holding origin) kt;
}

module _ (Q : Instruction → Type 0) (K : MachineWithGoods → Type 0) (kept : IsKeptByCalls Q K) where
  abbrev at_end : IsKeptAtEnd K
  at_end = kept_at_end Q K kept

  pub done_kept : (x : Instruction) (m : Machine) → Q x → refusal_of x m ≡ None → Rests K m → Rests K (xcm.done x m)
  done_kept x m q free k =
      done_keeps (out-Instruction x) m K (λ c t asks from ok kt. kept.called x (out-Instruction x) refl q Moment.Inside m t c k asks from ok kt)
      (λ t from kt. kept.turned t (turned (out-Instruction x) m t.regs) (turns (out-Instruction x) m t from) kt) free k

  pub spilled_kept : (x : Instruction) (m now : Machine) → Q x → leaves_on_oom x m now → Rests K m → Rests K now
  spilled_kept x m now q s k =
      spilled_keeps x m K (λ c t asks from ok kt. kept.called x (out-Instruction x) refl q Moment.Inside m t c k asks from ok kt)
      (λ t from kt. kept.turned t (turned (out-Instruction x) m t.regs) (turns (out-Instruction x) m t from) kt) now s k

  registers_kept : (m : Machine) (r : Registers) → r.holding ≡ m.regs.holding → r.origin ≡ m.regs.origin → Rests K m → Rests K (machine r m.part)
  registers_kept m r holding origin k = kept.turned (between m) r (stays_origin m.regs r holding origin) k

  -- ---- a run
  begin_kept : (part : Part) (program : List Instruction) (m : Machine) → Rests K m → Rests K (machine_of (begin part program m))
  begin_kept part [] m k = k
  begin_kept part (x ∷ behind) m k = k

  to_appendix_kept : (m : Machine) → Rests K m → Rests K (machine_of (to_appendix m))
  to_appendix_kept m k = begin_kept parts.Appendix m.regs.appendix (record m { regs = without_appendix m.regs }) (registers_kept m (without_appendix m.regs) refl refl k)

  to_handler_kept : (handler : List Instruction) (m : Machine) → Rests K m → Rests K (machine_of (to_handler handler m))
  to_handler_kept [] m k = to_appendix_kept m k
  to_handler_kept (x ∷ behind) m k = registers_kept m (without_handler m.regs) refl refl k

  pub go_on_kept : (part : Part) (place : ℕ) (behind : List Instruction) (m : Machine) → Rests K m → Rests K (machine_of (go_on part place behind m))
  go_on_kept part place [] m k = to_appendix_kept (record m { regs = handler_dropped m.regs }) (registers_kept m (handler_dropped m.regs) refl refl k)
  go_on_kept part place (x ∷ behind) m k = k

  by_answer_kept : (part : Part) (place : ℕ) (x : Instruction) (behind : List Instruction) (m : Machine) (o : Option XcmError) → refusal_of x m ≡ o → Q x → Rests K m → Rests K (machine_of (by_answer xcm part place x behind m o))
  by_answer_kept part place x behind m None e q k = go_on_kept part (place + 1) behind (traced part place x None (xcm.done x m)) (told_rests K at_end (xcm.done x m) _ (done_kept x m q e k))
  by_answer_kept part place x behind m (Some error) e q k =
      let n = traced part place x (Some error) m in
      to_handler_kept m.regs.handler (record n { regs = failed place error behind m.regs }) (registers_kept n (failed place error behind m.regs) refl refl (told_rests K at_end m _ k))

  pub next_kept : (g : Stage) → IsAheadOf Q g → Rests K (machine_of g) → Rests K (machine_of (next xcm g))
  next_kept (At part place x behind m) ahead k = by_answer_kept part place x behind m (refusal_of x m) refl ahead.ahead_hold.0 k
  next_kept (Ended m) ahead k = k

  -- ---- memory is refused
  pub halted_kept : (x : Instruction) (m now : Machine) → Q x → Halted xcm leaves_on_oom x m now → Rests K m → Rests K now
  halted_kept x m now q h k =
      halted_keeps x m K (λ c t asks from ok kt. kept.called x (out-Instruction x) refl q Moment.Inside m t c k asks from ok kt)
      (λ t from kt. kept.turned t (turned (out-Instruction x) m t.regs) (turns (out-Instruction x) m t from) kt) now h k

  -- ---- wherever a run comes
  steps_kept : (n : ℕ) (g : Stage) → ((k : ℕ) → IsAheadOf Q (steps xcm k g)) → Rests K (machine_of g) → Rests K (machine_of (steps xcm n g))
  unfolding steps
  steps_kept zero g ahead k = k
  steps_kept (suc n) g ahead k = steps_kept n (next xcm g) (λ j. ahead (suc j)) (next_kept g (ahead 0) k)

  pub reached_kept : (g h : Stage) → ((k : ℕ) → IsAheadOf Q (steps xcm k g)) → Reaches xcm g h → Rests K (machine_of g) → Rests K (machine_of h)
  reached_kept g h ahead r k = subst (λ (h : Stage). Rests K (machine_of h)) r.1 (steps_kept r.0 g ahead k)

  module _ (rules : ChainRules) (origin : Location) where
    begun_kept : (a : Admitted) (p : ChainPart) → Rests K (first_machine rules origin p) → Rests K (machine_of (first_stage rules origin a p))
    begun_kept a p k = begin_kept parts.Program a.program (first_machine rules origin p) k

    pub run_kept : (a : Admitted) (p : ChainPart) → ((k : ℕ) → IsAheadOf Q (steps xcm k (first_stage rules origin a p))) → Rests K (first_machine rules origin p)
        → (g : Stage) → Reaches xcm (first_stage rules origin a p) g → Rests K (machine_of g)
    run_kept a p ahead k g r = reached_kept (first_stage rules origin a p) g ahead r (begun_kept a p k)

    pub ran_kept : (a : Admitted) (p : ChainPart) → ((k : ℕ) → IsAheadOf Q (steps xcm k (first_stage rules origin a p))) → Rests K (first_machine rules origin p) → Rests K (last_machine rules origin a p)
    ran_kept a p ahead k = run_kept a p ahead k (run xcm (first_stage rules origin a p)) (still_to_run (first_stage rules origin a p), refl)

    pub executed_by_kept : (r : Result Admitted Outcome) (p : ChainPart) → ((a : Admitted) → r ≡ Ok a → (k : ℕ) → IsAheadOf Q (steps xcm k (first_stage rules origin a p))) → Rests K (first_machine rules origin p) → HoldsAtEnd K (executed_by rules origin r p).1
    executed_by_kept (Err outcome) p ahead k = record { regs = (first_machine rules origin p).regs; nothing = refl; kept = k }
    executed_by_kept (Ok a) p ahead k = finished_kept K at_end (last_machine rules origin a p) (ran_kept a p (ahead a refl) k)

    pub abandoned_in_kept : (a : Admitted) (p now : ChainPart) → ((k : ℕ) → IsAheadOf Q (steps xcm k (first_stage rules origin a p))) → AbandonedIn rules origin a p now → Rests K (first_machine rules origin p) → HoldsAtEnd K now
    abandoned_in_kept a p now ahead h k =
        ⊎_elim
        (λ (s : (stopped : Machine) × StoppedIn xcm leaves_on_oom (first_stage rules origin a p) stopped × (now ≡ abandoned stopped.regs stopped.part)).
        abandoned_kept K at_end s.0 now s.2 (stopped_kept s.0 s.1))
        (λ (e : HaltedAtEnd xcm leaves_on_oom (last_machine rules origin a p) now). at_end_kept K at_end (last_machine rules origin a p) now e (ran_kept a p ahead k)) h
      where
        stopped_kept : (left : Machine) → StoppedIn xcm leaves_on_oom (first_stage rules origin a p) left → Rests K left
        stopped_kept left s =
            let before = run_kept a p ahead k (At s.part s.place s.which s.behind s.before) s.reached in
            let here = subst (IsAheadOf Q) s.reached.1 (ahead s.reached.0) in
            halted_kept s.which s.before left here.ahead_hold.0 s.halted before

-- ---- of all instructions
abbrev pub any_kind : Instruction → Type 0
any_kind x = ⊤

all_any : (xs : List Instruction) → AllByRecursion any_kind xs
all_any [] = tt
all_any (x ∷ xs) = (tt, all_any xs)

any_ahead : (g : Stage) → IsAheadOf any_kind g
any_ahead (At part place x behind m) = record { ahead_hold = all_any (x ∷ behind); handler_holds = all_any m.regs.handler; appendix_holds = all_any m.regs.appendix }
any_ahead (Ended m) = record { ahead_hold = tt; handler_holds = all_any m.regs.handler; appendix_holds = all_any m.regs.appendix }

module _ (K : MachineWithGoods → Type 0) (kept : IsKeptByCalls any_kind K) where
  pub keeps_done : (x : Instruction) (m : Machine) → refusal_of x m ≡ None → K (between m) → K (between (xcm.done x m))
  keeps_done x m free k = done_kept any_kind K kept x m tt free k

  pub keeps_spilled : (x : Instruction) (m now : Machine) → leaves_on_oom x m now → K (between m) → K (between now)
  keeps_spilled x m now s k = spilled_kept any_kind K kept x m now tt s k

  pub keeps_reached : (g h : Stage) → Reaches xcm g h → K (between (machine_of g)) → K (between (machine_of h))
  keeps_reached g h r k = reached_kept any_kind K kept g h (λ j. any_ahead _) r k

  pub keeps_run : (rules : ChainRules) (origin : Location) (a : Admitted) (p : ChainPart) (g : Stage) → Reaches xcm (first_stage rules origin a p) g → K (between (first_machine rules origin p)) → K (between (machine_of g))
  keeps_run rules origin a p g r k = run_kept any_kind K kept rules origin a p (λ j. any_ahead _) k g r

  pub keeps_halted : (x : Instruction) (m now : Machine) → Halted xcm leaves_on_oom x m now → K (between m) → K (between now)
  keeps_halted x m now h k = halted_kept any_kind K kept x m now tt h k

  pub keeps_executed : (rules : ChainRules) (origin : Location) (credit : Weight) (program : List Instruction) (p : ChainPart) → K (between (first_machine rules origin p)) → HoldsAtEnd K (executed rules origin credit program p).1
  keeps_executed rules origin credit program p k = executed_by_kept any_kind K kept rules origin (admitted rules origin credit p.queries program) p (λ a e j. any_ahead _) k

  pub keeps_abandoned : (rules : ChainRules) (origin : Location) (credit : Weight) (program : List Instruction) (p now : ChainPart) → IsAbandoned rules origin credit program p now → K (between (first_machine rules origin p)) → HoldsAtEnd K now
  keeps_abandoned rules origin credit program p now h k = abandoned_in_kept any_kind K kept rules origin h.0 p now (λ j. any_ahead _) h.2 k
