-- Lemmas: what is left where memory is refused to a run is a safe change too, with what is parked counted. A reader may skip this file.
use Rattle.std.proofs.Common.{◌≡◌, ◌⊎◌, ⊎_elim, inl, inr, ℕ, zero, suc, ◌+◌, List, [], ◌∷◌, Option, Some, None, Result, Ok, Err, refl, sym, ap, ◌∙◌, subst, arith}
use Rattle.amounts.specs.Amounts.{total, empty}
use Rattle.amounts.proofs.Lemmas.AmountLaws.{total-empty}
use Rattle.locations.specs.declared.relative.Location.{Location}
use Rattle.operands.specs.declared.error.XcmError.{XcmError}
use Rattle.asset_bundles.specs.Bundles.{Bundle}
use Rattle.asset_bundles.proofs.Lemmas.Bundles.{unit_keys}
use Rattle.xcm_program.specs.declared.instruction.Instruction.{Instruction, out-Instruction, out-roll-Instruction}
use Rattle.xcm_program.specs.declared.instruction.Instruction.TheOpen.{Instruction-F}
use Rattle.xcm_program.specs.Indices.{index}
use Rattle.xcm_program.proofs.Lemmas.{everywhere_open}
use Rattle.exec_base.specs.declared.event.Event.{Event}
use Rattle.exec_base.specs.declared.event.Part.TheVariants as parts
use Rattle.exec_base.specs.declared.registers.Registers.{Registers}
use Rattle.exec_base.specs.Part.{ChainPart, DeliveredCargo}
use Rattle.exec_base.specs.Host.{parked}
use Rattle.exec_rules.specs.Machine.{Machine, machine, Performed}
use Rattle.exec_rules.specs.Run.{Stage, At, Ended, begin, next, steps, machine_of, failed, without_appendix, handler_dropped, traced, GoesOnTo, StoppedIn, Halted}
use Rattle.exec_rules.proofs.Lemmas.RunLaws.{steps_end}
use Rattle.exec_rules.proofs.Lemmas.KeepingLaws.{reached_hold}
use Rattle.exec_rules.specs.Accounts.{IsBalanced}
use Rattle.exec_rules.specs.Outcome.{abandoned, HaltedAtEnd}
use Rattle.exec_rules.specs.Instructions.{done, refusal_of, xcm}
use Rattle.exec_rules.specs.Readiness.{IsSteady}
use Rattle.exec_rules.specs.Stopping.{PartwayOnOom, LeftOnOom, leaves_on_oom}
use Rattle.exec_rules.specs.declared.rules.ChainRules.{ChainRules}
use Rattle.exec_rules.specs.declared.admission.Admitted.{Admitted}
use Rattle.exec_rules.specs.Execution.{started, first_machine, first_stage, last_machine, AbandonedIn}
use Rattle.law_coherence.specs.Networks.{Table, Agrees}
use Rattle.law_runs.specs.Sums.{none, HasRoom}
use Rattle.law_runs.proofs.Lemmas.Sums.{nobody}
use Rattle.law_runs.proofs.Lemmas.Calls.{call_with, still}
use Rattle.law_runs.specs.Safety.{HasList, AreLists, hold, Safely}
use Rattle.law_runs.proofs.Lemmas.Safety.{moved_safely, safely_then, keeps_room}
use Rattle.law_runs.proofs.Lemmas.Shipping.{HasList-IsOfLayer}
use Rattle.law_runs.specs.Runs.{IsSafeAt}
use Rattle.law_runs.proofs.Lemmas.Runs.{told_steady, done_goes, lists_go_inside}
use Rattle.law_runs.proofs.Lemmas.Accepted.{spilled_safely}
use Rattle.law_runs.proofs.Lemmas.Stopping.{abandoned_call}
use Rattle.law_runs.proofs.Lemmas.Ending.{halted_call}
use Rattle.exec_rules.specs.HostCalls.{MachineWithGoods, MachineCall, after}
use Rattle.exec_rules.proofs.Lemmas.Reasons.{ComesAtEnd}
use Rattle.exec_rules.proofs.Lemmas.Kept.{IsKeptAtEnd}
use Rattle.exec_rules.proofs.Lemmas.KeptLaws.{at_end_kept}
use Rattle.law_steps.specs.Soundness.{LawsBelow}
use Rattle.law_steps.proofs.Lemmas.Firsts.{IsSetBehind, second, stopped, alone, told_safely, told_cargo, step_on, stays_here, refused_next, refused_last, alone_next, alone_last, led_once, led_on, led_last}

-- ---- what is delivered
pub parked_cargo : (p : ChainPart) (goods : Bundle) → (parked p goods).cargo ≡ p.cargo
unfolding parked
parked_cargo p goods = refl

-- ---- stages
abbrev which_at : Stage → Option Instruction
which_at (At part place which behind m) = Some which
which_at (Ended m) = None

same_which : (x y : Instruction) → Some x ≡ Some y → x ≡ y
same_which x y e = cc

pub same_front : (x y : Instruction) (xs ys : List Instruction) → x ∷ xs ≡ y ∷ ys → x ≡ y
same_front x y xs ys e = cc

-- other registers than the holding change nothing
pub held_safely : (m : Machine) (r : Registers) → r.holding ≡ m.regs.holding → Safely m (machine r m.part)
held_safely m r same =
    subst (λ (b : Bundle). Safely m (machine (record r { holding = b }) m.part)) (sym same)
    (moved_safely nobody m (machine (record r { holding = m.regs.holding }) m.part) (λ chain number foreign h. h)
    (call_with nobody none none (hold m) (hold m) m.part m.part (still m.part m.part refl) (λ t. omega arith)))

-- ---- the end of a run leaves the cargo
cargo_after : (c : MachineCall) (t : MachineWithGoods) → ComesAtEnd c → (after c t).part.cargo ≡ t.part.cargo
cargo_after (MachineCall.Withdraw list who) t comes = absurd comes
cargo_after (MachineCall.Receive list from teleport) t comes = absurd comes
cargo_after _ t comes = refl

cargo_at_end : (cargo : DeliveredCargo) → IsKeptAtEnd (λ (t : MachineWithGoods). t.part.cargo ≡ cargo)
cargo_at_end cargo = record { closing = λ m t c k asks comes from ok h. cargo_after c t comes ∙ h; closed = λ t r holding origin h. h }

-- ---- ClearOrigin stops
clear_spilt : (before m : Machine) → leaves_on_oom second before m → Safely before m
clear_spilt before m h =
    let s : LeftOnOom Instruction-F.ClearOrigin before m = subst (λ (l : Instruction-F Instruction). LeftOnOom l before m) (out-roll-Instruction Instruction-F.ClearOrigin) h in
    ⊎_elim (λ (e : m ≡ before). subst (Safely before) (sym e) (held_safely before before.regs refl)) (λ (no_way : ⊥). absurd no_way) s

clear_performed : (before m : Machine) (answer : Result (Unit {0}) XcmError) → Performed xcm second before answer m → Safely before m
clear_performed before m (Ok u) h =
    subst (Safely before) (sym (h.1 ∙ ap (λ (l : Instruction-F Instruction). done l before) (out-roll-Instruction Instruction-F.ClearOrigin))) (held_safely before (record before.regs { origin = None }) refl)
clear_performed before m (Err e) h = subst (Safely before) (sym h.1) (held_safely before before.regs refl)

clear_halts : (which : Instruction) (before m : Machine) → second ≡ which → Halted xcm leaves_on_oom which before m → Safely before m
clear_halts which before m same h =
    let s : Halted xcm leaves_on_oom second before m = subst (λ (x : Instruction). Halted xcm leaves_on_oom x before m) (sym same) h in
    ⊎_elim (λ (s : leaves_on_oom second before m). clear_spilt before m s) (λ (d : (answer : Result (Unit {0}) XcmError) × Performed xcm second before answer m). clear_performed before m d.0 d.1) s

-- ---- runs
-- memory was refused after the first instruction
abbrev pub StoppedBehind : ChainRules → Location → Admitted → ChainPart → Machine → Type 0
StoppedBehind rules origin a p m = (s : StoppedIn xcm leaves_on_oom (first_stage rules origin a p) m) × ((count : ℕ) × (s.reached.0 ≡ suc count))

abbrev pub AbandonedBehind : ChainRules → Location → Admitted → ChainPart → ChainPart → Type 0
AbandonedBehind rules origin a p q = ((m : Machine) × StoppedBehind rules origin a p m × (q ≡ abandoned m.regs m.part)) ⊎ HaltedAtEnd xcm leaves_on_oom (last_machine rules origin a p) q

-- the first instruction ran, and memory was refused after it
pub record DoneFirst (rules : ChainRules) (origin : Location) (a : Admitted) (p q : ChainPart) : Type 0 where
  pub which : Instruction
  pub behind : List Instruction
  pub is : a.program ≡ which ∷ behind
  pub way : refusal_of which (first_machine rules origin p) ≡ None
  pub parks : q ≡ abandoned (xcm.done which (first_machine rules origin p)).regs (xcm.done which (first_machine rules origin p)).part

-- memory was refused in the first instruction, which had changed something
pub record StopsFirst (rules : ChainRules) (origin : Location) (a : Admitted) (p q : ChainPart) : Type 0 where
  pub which : Instruction
  pub behind : List Instruction
  pub is : a.program ≡ which ∷ behind
  pub left : Machine
  pub changed : PartwayOnOom (out-Instruction which) (first_machine rules origin p) left
  pub parks : q ≡ abandoned left.regs left.part

-- nothing is held where a run was abandoned
abbrev pub over : ChainRules → Location → ChainPart → Machine
over rules origin q = machine (started rules origin) q

-- a run has come there, after its first instruction
abbrev pub ComesTo : Stage → Machine → Type 0
ComesTo g m = (h : Stage) × GoesOnTo xcm g h × (machine_of h ≡ m)

-- so it has, or memory was refused to it there
abbrev pub StandsAs : ChainRules → Location → Admitted → ChainPart → Machine → Type 0
StandsAs rules origin a p m = ComesTo (first_stage rules origin a p) m ⊎ ((q : ChainPart) × (AbandonedBehind rules origin a p q ⊎ DoneFirst rules origin a p q) × (m ≡ over rules origin q))

-- where memory may have been refused
pub data Place (rules : ChainRules) (origin : Location) (a : Admitted) (p q : ChainPart) : Type 0 where
  Before : q ≡ abandoned (started rules origin) p → Place rules origin a p q
  InFirst : StopsFirst rules origin a p q → Place rules origin a p q
  Behind : AbandonedBehind rules origin a p q ⊎ DoneFirst rules origin a p q → Place rules origin a p q

module _ (laws : LawsBelow) (n : List Table) (agrees : Agrees n) (rules : ChainRules) (origin : Location) where
  pub parks : (m : Machine) → Safely m (over rules origin (abandoned m.regs m.part))
  parks m = moved_safely nobody m (over rules origin (abandoned m.regs m.part)) (λ chain number foreign h. h)
      (call_with nobody (hold m) none (hold m) (λ t. total t empty) m.part (abandoned m.regs m.part) (abandoned_call m) (λ t. let z = total-empty unit_keys t in omega (arith, z)))

  -- ---- in an instruction
  performed : (x : Instruction) (m now : Machine) (answer : Result (Unit {0}) XcmError) → IsSafeAt n m → AreLists x → Performed xcm x m answer now → Safely m now
  performed x m now (Ok u) safe all h = subst (Safely m) (sym h.1) (done_goes laws.withdraws laws.moves laws.stays n agrees x m all h.0 safe).1
  performed x m now (Err e) safe all h = subst (Safely m) (sym h.1) (held_safely m m.regs refl)

  spilled : (x : Instruction) (m now : Machine) → IsSafeAt n m → AreLists x → leaves_on_oom x m now → Safely m now
  spilled x m now safe all h = let opened = everywhere_open HasList HasList-IsOfLayer x all in
      spilled_safely laws.withdraws laws.moves n (out-Instruction x) m safe.fine safe.own_origin safe.steady safe.fees opened.0 opened.1 now h

  pub halted : (x : Instruction) (m now : Machine) → IsSafeAt n m → AreLists x → Halted xcm leaves_on_oom x m now → Safely m now
  halted x m now safe all h = ⊎_elim (λ (s : leaves_on_oom x m now). spilled x m now safe all s) (λ (d : (answer : Result (Unit {0}) XcmError) × Performed xcm x m answer now). performed x m now d.0 safe all d.1) h

  -- ---- at the end
  pub ended_from : (k m : Machine) → Safely k m → IsSteady m → HasRoom (hold m) m.part → (now : ChainPart) → HaltedAtEnd xcm leaves_on_oom m now → Safely k (over rules origin now) × (now.cargo ≡ m.part.cargo)
  ended_from k m before steady room now h = (
    safely_then k m (over rules origin now) before
        (moved_safely nobody m (over rules origin now) (λ chain number foreign h. h)
        (call_with nobody (hold m) none (hold m) (λ t. total t empty) m.part now (halted_call laws.moves laws.trapping m room steady.rest.order.paid now h) (λ t. let z = total-empty unit_keys t in omega (arith, z)))),
    (at_end_kept (λ (t : MachineWithGoods). t.part.cargo ≡ m.part.cargo) (cargo_at_end m.part.cargo) m now h refl).kept,
  )

  -- ---- after the first instruction of a delivered message
  module _ (p : ChainPart) (a : Admitted) (balanced : IsBalanced a.weight (first_stage rules origin a p)) where
    abbrev g : Stage
    g = first_stage rules origin a p

    abbrev m0 : Machine
    m0 = first_machine rules origin p

    stage_at : (m : Machine) (b : StoppedBehind rules origin a p m) → steps xcm b.1.0 (next xcm (first_stage rules origin a p)) ≡ At b.0.part b.0.place b.0.which b.0.behind b.0.before
    stage_at m b = sym (step_on b.1.0 (first_stage rules origin a p)) ∙ ap (λ (count : ℕ). steps xcm count (first_stage rules origin a p)) (sym b.1.1) ∙ b.0.reached.1

    none_behind : (k : Machine) → next xcm (first_stage rules origin a p) ≡ Ended k → (m : Machine) → StoppedBehind rules origin a p m → ⊥
    none_behind k ends m b =
        let there : Ended k ≡ At b.0.part b.0.place b.0.which b.0.behind b.0.before = sym (steps_end xcm b.1.0 (Ended k) tt) ∙ ap (steps xcm b.1.0) (sym ends) ∙ stage_at m b in
        let no_way : None ≡ Some b.0.which = ap which_at there in
        absurd cc

    led_halts : (x : Instruction) (behind : List Instruction) → IsSetBehind laws n agrees rules origin p a balanced x behind → (m : Machine) (s : StoppedIn xcm leaves_on_oom (first_stage rules origin a p) m) (count : ℕ)
        → steps xcm count (next xcm (first_stage rules origin a p)) ≡ At s.part s.place s.which s.behind s.before → Safely (xcm.done x (first_machine rules origin p)) m
    led_halts x behind set m s zero e =
        let k = xcm.done x m0 in
        let event = Event.Ran parts.Program 0 (index (out-Instruction x)) None in
        let first = traced parts.Program 0 x None k in
        let there : At parts.Program (0 + 1) second behind first ≡ At s.part s.place s.which s.behind s.before =
        sym (led_once laws n agrees rules origin p a balanced x behind set.is set.way) ∙ sym (stays_here (next xcm g)) ∙ e in
        let before : first ≡ s.before = ap machine_of there in
        safely_then k s.before m (subst (Safely k) before (told_safely k event k.regs refl)) (clear_halts s.which s.before m (same_which second s.which (ap which_at there)) s.halted)
    led_halts x behind set m s (suc count) e =
        let k = xcm.done x m0 in
        let on = led_on laws n agrees rules origin p a balanced x behind set count in
        let same : machine_of (steps xcm (suc count) (next xcm g)) ≡ s.before = ap machine_of e in
        let all = (reached_hold xcm laws.orderly AreLists lists_go_inside (first_stage rules origin a p) (At s.part s.place s.which s.behind s.before) s.reached set.ahead).ahead_hold.0 in
        safely_then k s.before m (subst (Safely k) same on.1) (halted s.which s.before m (subst (IsSafeAt n) same on.0) all s.halted)

    -- its first instruction was refused
    pub refused_stops : (x : Instruction) (behind : List Instruction) (e : XcmError) → a.program ≡ x ∷ behind → refusal_of x m0 ≡ Some e → IsSteady (stopped laws n agrees rules origin p a balanced x e behind) → HasRoom (hold m0) p
        → (q : ChainPart) → AbandonedBehind rules origin a p q → Safely (first_machine rules origin p) (over rules origin q) × (q.cargo ≡ p.cargo)
    refused_stops x behind e is no_way steady room q h =
        let k = stopped laws n agrees rules origin p a balanced x e behind in
        let event = Event.Ran parts.Program 0 (index (out-Instruction x)) (Some e) in
        let told_so : Safely m0 k = told_safely m0 event (without_appendix (failed 0 e behind (started rules origin))) refl in
        let last = refused_last laws n agrees rules origin p a balanced x behind e is no_way in
        ⊎_elim (λ (s : (m : Machine) × StoppedBehind rules origin a p m × (q ≡ abandoned m.regs m.part)). absurd (none_behind k (refused_next laws n agrees rules origin p a balanced x behind e is no_way) s.0 s.1))
        (λ (s : HaltedAtEnd xcm leaves_on_oom (last_machine rules origin a p) q).
        let both = ended_from m0 k told_so steady (keeps_room m0 k told_so room) q (subst (λ (z : Machine). HaltedAtEnd xcm leaves_on_oom z q) (sym last) s) in
        (both.0, both.1 ∙ told_cargo p event)) h

    pub alone_stops : (x : Instruction) → a.program ≡ x ∷ [] → refusal_of x m0 ≡ None → (xcm.done x m0).regs.appendix ≡ [] → IsSteady (xcm.done x m0) → HasRoom (hold (xcm.done x m0)) (xcm.done x m0).part
        → (q : ChainPart) → AbandonedBehind rules origin a p q → Safely (xcm.done x (first_machine rules origin p)) (over rules origin q)
    alone_stops x is way no_appendix steady room q h =
        let d = xcm.done x m0 in
        let k = alone laws n agrees rules origin p a balanced x d in
        let event = Event.Ran parts.Program 0 (index (out-Instruction x)) None in
        let told_so : Safely d k = told_safely d event (without_appendix (handler_dropped d.regs)) refl in
        let s_k = told_steady d event steady in
        let last = alone_last laws n agrees rules origin p a balanced x is way no_appendix in
        ⊎_elim (λ (s : (m : Machine) × StoppedBehind rules origin a p m × (q ≡ abandoned m.regs m.part)). absurd (none_behind k (alone_next laws n agrees rules origin p a balanced x is way no_appendix) s.0 s.1))
        (λ (s : HaltedAtEnd xcm leaves_on_oom (last_machine rules origin a p) q).
        (ended_from d k told_so (record { rest = s_k.rest; holding = s_k.holding }) (keeps_room d k told_so room) q (subst (λ (z : Machine). HaltedAtEnd xcm leaves_on_oom z q) (sym last) s)).0) h

    pub led_stops : (x : Instruction) (behind : List Instruction) → IsSetBehind laws n agrees rules origin p a balanced x behind → (q : ChainPart) → AbandonedBehind rules origin a p q → Safely (xcm.done x (first_machine rules origin p)) (over rules origin q)
    led_stops x behind s q h =
        let k = xcm.done x m0 in
        let last = led_last laws n agrees rules origin p a balanced x behind s in
        ⊎_elim (λ (b : (m : Machine) × StoppedBehind rules origin a p m × (q ≡ abandoned m.regs m.part)).
        subst (λ (y : ChainPart). Safely k (over rules origin y)) (sym b.2) (safely_then k b.0 (over rules origin (abandoned b.0.regs b.0.part)) (led_halts x behind s b.0 b.1.0 b.1.1.0 (stage_at b.0 b.1)) (parks b.0)))
        (λ (e : HaltedAtEnd xcm leaves_on_oom (last_machine rules origin a p) q). (ended_from k (last_machine rules origin a p) last.1 last.0.steady last.0.fine.room q e).0) h

    -- where the first instruction ran
    pub done_stops : (x : Instruction) (behind : List Instruction) → a.program ≡ x ∷ behind → (q : ChainPart) → DoneFirst rules origin a p q → Safely (xcm.done x (first_machine rules origin p)) (over rules origin q)
    done_stops x behind is q d =
        let same : d.which ≡ x = same_front d.which x d.behind behind (sym d.is ∙ is) in
        let k = xcm.done x m0 in
        subst (λ (y : ChainPart). Safely k (over rules origin y)) (sym (d.parks ∙ ap (λ (z : Instruction). abandoned (xcm.done z m0).regs (xcm.done z m0).part) same)) (parks k)

    -- ---- where memory was refused
    first_place : (x : Instruction) (behind : List Instruction) → a.program ≡ x ∷ behind → (m : Machine) (q : ChainPart) → q ≡ abandoned m.regs m.part → Halted xcm leaves_on_oom x m0 m → Place rules origin a p q
    first_place x behind is m q e h = ⊎_elim
        (λ (s : leaves_on_oom x m0 m). ⊎_elim (λ (same : m ≡ m0). Before (e ∙ ap (λ (z : Machine). abandoned z.regs z.part) same))
        (λ (stops : PartwayOnOom (out-Instruction x) m0 m). InFirst (record { which = x; behind = behind; is = is; left = m; changed = stops; parks = e })) s)
        (λ (d : (answer : Result (Unit {0}) XcmError) × Performed xcm x m0 answer m). first_done x behind is m q e d.0 d.1) h
      where
        first_done : (x : Instruction) (behind : List Instruction) → a.program ≡ x ∷ behind → (m : Machine) (q : ChainPart) → q ≡ abandoned m.regs m.part → (answer : Result (Unit {0}) XcmError) → Performed xcm x m0 answer m → Place rules origin a p q
        first_done x behind is m q e (Ok u) h = Behind (inr (record { which = x; behind = behind; is = is; way = h.0; parks = e ∙ ap (λ (z : Machine). abandoned z.regs z.part) h.1 }))
        first_done x behind is m q e (Err error) h = Before (e ∙ ap (λ (z : Machine). abandoned z.regs z.part) h.1)

    place_at : (program : List Instruction) → a.program ≡ program → (m : Machine) (q : ChainPart) → q ≡ abandoned m.regs m.part → (s : StoppedIn xcm leaves_on_oom (first_stage rules origin a p) m)
        → begin parts.Program program m0 ≡ At s.part s.place s.which s.behind s.before → Place rules origin a p q
    place_at [] is m q e s there = absurd (let no_way : None ≡ Some s.which = ap which_at there in cc)
    place_at (x ∷ behind) is m q e s there =
        let which : s.which ≡ x = sym (same_which x s.which (ap which_at there)) in
        let before : s.before ≡ m0 = sym (ap machine_of there) in
        first_place x behind is m q e (subst (λ (z : Machine). Halted xcm leaves_on_oom x z m) before (subst (λ (z : Instruction). Halted xcm leaves_on_oom z s.before m) which s.halted))

    by_count : (m : Machine) (q : ChainPart) → q ≡ abandoned m.regs m.part → (s : StoppedIn xcm leaves_on_oom (first_stage rules origin a p) m) (count : ℕ) → s.reached.0 ≡ count → Place rules origin a p q
    by_count m q e s zero at =
        place_at a.program refl m q e s (sym (stays_here (first_stage rules origin a p)) ∙ ap (λ (count : ℕ). steps xcm count (first_stage rules origin a p)) (sym at) ∙ s.reached.1)
    by_count m q e s (suc count) at = Behind (inl (inl (m, (s, (count, at)), e)))

    pub place_of_stop : (q : ChainPart) → AbandonedIn rules origin a p q → Place rules origin a p q
    place_of_stop q h = ⊎_elim
        (λ (s : (m : Machine) × StoppedIn xcm leaves_on_oom (first_stage rules origin a p) m × (q ≡ abandoned m.regs m.part)). by_count s.0 q s.2 s.1 s.1.reached.0 refl)
        (λ (e : HaltedAtEnd xcm leaves_on_oom (last_machine rules origin a p) q). Behind (inl (inr e))) h
