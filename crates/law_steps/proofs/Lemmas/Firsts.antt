-- Lemmas: how the run of a delivered message goes on after its first instruction. A reader may skip this file.
use Rattle.std.proofs.Common.{◌≡◌, ℕ, zero, suc, ◌+◌, Bool, true, false, List, [], ◌∷◌, length, Option, Some, None, refl, sym, ap, ◌∙◌, subst, arith}
use Rattle.std.specs.Prelude.{if◌then◌else◌, nat_eq}
use Rattle.std.specs.List.{AllByRecursion}
use Rattle.amounts.specs.Amounts.{rows}
use Rattle.amounts.proofs.Lemmas.AmountLaws.{amount-empty, total-empty}
use Rattle.locations.specs.declared.relative.Location.{Location}
use Rattle.operands.specs.declared.error.XcmError.{XcmError}
use Rattle.operands.specs.declared.weight.Weight.{Weight}
use Rattle.asset_bundles.specs.Bundles.{Bundle}
use Rattle.asset_bundles.proofs.Lemmas.Bundles.{unit_keys}
use Rattle.asset_bundles.specs.Books.{is_unit_of, AreListed}
use Rattle.asset_bundles.specs.Joins.{IsWithinMost}
use Rattle.trust_tables.specs.Trust.{listing}
use Rattle.xcm_program.specs.declared.instruction.Instruction.{Instruction, out-Instruction, roll-Instruction, out-roll-Instruction}
use Rattle.xcm_program.specs.declared.instruction.Instruction.TheOpen.{Instruction-F}
use Rattle.xcm_program.specs.Indices.{index}
use Rattle.exec_base.specs.declared.event.Event.{Event}
use Rattle.exec_base.specs.declared.event.Part as places
use Rattle.exec_base.specs.declared.event.Part.TheVariants as parts
use Rattle.exec_base.specs.declared.registers.Registers.{Registers}
use Rattle.exec_base.specs.Part.{ChainPart}
use Rattle.exec_base.specs.Host.{told, refunded, bundles_joined, booked, settled, trapped}
use Rattle.exec_rules.specs.Machine.{Machine, machine}
use Rattle.exec_rules.specs.Run.{Stage, At, Ended, begin, go_on, failed, without_appendix, handler_dropped, traced, by_answer, next, steps, run, still_to_run, machine_of, left_after, Reaches, GoesOnTo}
use Rattle.exec_rules.proofs.Lemmas.RunLaws.{steps_end, reached_balanced, reaches_here, reaches_next, run_reached, run_from}
use Rattle.exec_rules.proofs.Lemmas.KeepingLaws.{begin_machine, reached_hold}
use Rattle.exec_rules.specs.Accounts.{IsBalanced}
use Rattle.exec_rules.specs.Keeping.{IsAheadOf}
use Rattle.exec_rules.specs.Outcome.{owner_of, end_told, end_event, refund_surplus, refunded_last, finished}
use Rattle.exec_rules.specs.Holdings.{refund_now, refund_done}
use Rattle.exec_rules.specs.Instructions.{refused, done, refusal_of, xcm}
use Rattle.exec_rules.specs.Readiness.{IsAtRest, IsSteady}
use Rattle.exec_rules.specs.declared.rules.ChainRules.{ChainRules}
use Rattle.exec_rules.specs.declared.admission.Admitted.{Admitted}
use Rattle.exec_rules.specs.Execution.{started, first_machine, first_stage, last_machine}
use Rattle.law_coherence.specs.Networks.{Table, IsIn, Agrees}
use Rattle.law_runs.specs.Views.{table_of}
use Rattle.law_runs.specs.Sums.{none, HasRoom}
use Rattle.law_runs.proofs.Lemmas.Sums.{nobody}
use Rattle.law_runs.proofs.Lemmas.Calls.{call_with, telling}
use Rattle.law_runs.specs.Safety.{AreLists, HasFee, AreFees, links_of, hold, Safely}
use Rattle.law_runs.proofs.Lemmas.Safety.{moved_safely, safely_then, keeps_room}
use Rattle.law_runs.specs.Accepted.{IsOwnOrigin}
use Rattle.law_runs.proofs.Lemmas.Accepted.{caller_spared}
use Rattle.law_runs.specs.Runs.{IsSafeAt}
use Rattle.law_runs.proofs.Lemmas.Runs.{registers_go, told_steady, told_table, lists_go_inside, steps_go, emptied, finished_safely}
use Rattle.law_steps.specs.Soundness.{LawsBelow}

-- a machine on which a run may go on, but for its origin
pub record IsSet (n : List Table) (k : Machine) : Type 0 where
  pub room : HasRoom (hold k) k.part
  pub listed : AreListed (listing k.part.rows) k.regs.holding
  pub within : IsWithinMost k.regs.holding
  pub there : IsIn n (table_of k.part)
  pub steady : IsSteady k
  pub fees : AreFees k.part.channels

-- a line of the trace changes nothing, nor do other registers than the holding
pub told_safely : (k : Machine) (e : Event) (r : Registers) → r.holding ≡ k.regs.holding → Safely k (machine r (told k.part e))
told_safely k e r same =
    subst (λ (b : Bundle). Safely k (machine (record r { holding = b }) (told k.part e))) (sym same)
    (moved_safely nobody k (machine (record r { holding = k.regs.holding }) (told k.part e)) (λ chain number foreign h. h)
    (call_with nobody none none (hold k) (hold k) k.part (told k.part e) (telling k.part e) (λ t. omega arith)))

told_links : (p : ChainPart) (e : Event) → links_of (told p e).channels ≡ links_of p.channels
unfolding told
told_links p e = refl

-- ---- what is delivered stays as it is at the end
pub joined_cargo : (p : ChainPart) (a b : Bundle) → (bundles_joined p a b).cargo ≡ p.cargo
unfolding bundles_joined booked
joined_cargo p a b = refl

pub refunded_cargo : (p : ChainPart) (w : Weight) → (refunded p w).cargo ≡ p.cargo
unfolding refunded
refunded_cargo p w = refl

refund_cargo : (m : Machine) (o : Option (Location × ℕ)) → (refund_done m o).part.cargo ≡ m.part.cargo
refund_cargo m None = refl
refund_cargo m (Some given) = joined_cargo _ _ _ ∙ refunded_cargo m.part _

pub last_cargo : (m : Machine) (o : Option XcmError) → (left_after xcm refund_surplus m o).part.cargo ≡ m.part.cargo
last_cargo m None = ap (λ (l : Instruction-F Instruction). (done l m).part.cargo) (out-roll-Instruction Instruction-F.RefundSurplus) ∙ refund_cargo m (refund_now m)
last_cargo m (Some e) = refl

rest_cargo : (r : Registers) (p : ChainPart) (b : Bool) → (if b then p else trapped p r.holding (owner_of r)).cargo ≡ p.cargo
unfolding trapped
rest_cargo r p true = refl
rest_cargo r p false = refl

pub settled_cargo : (p : ChainPart) → (settled p).cargo ≡ p.cargo
unfolding settled
settled_cargo p = refl

pub told_cargo : (p : ChainPart) (e : Event) → (told p e).cargo ≡ p.cargo
unfolding told
told_cargo p e = refl

pub finished_cargo : (m : Machine) → (finished xcm m).cargo ≡ m.part.cargo
finished_cargo m =
    let last = refunded_last xcm m in
    rest_cargo last.regs (settled (end_told last)) (nat_eq (length (rows last.regs.holding)) 0) ∙ settled_cargo (end_told last) ∙ told_cargo last.part (end_event last.regs) ∙ last_cargo m (refusal_of refund_surplus m)

pub step_on : (k : ℕ) (g : Stage) → steps xcm (suc k) g ≡ steps xcm k (next xcm g)
unfolding steps
step_on k g = refl

pub stays_here : (g : Stage) → steps xcm zero g ≡ g
unfolding steps
stays_here g = refl

-- a run that ends at once stays where it is
ends_there : (g h : Stage) (k : Machine) → next xcm g ≡ Ended k → GoesOnTo xcm g h → machine_of h ≡ k
ends_there g h k ends on =
    ap machine_of (sym on.1 ∙ step_on on.0 g ∙ ap (steps xcm on.0) ends ∙ steps_end xcm on.0 (Ended k) tt)

-- after the first instruction of a message that carries something
abbrev pub second : Instruction
second = roll-Instruction Instruction-F.ClearOrigin

-- ---- programs
module _ (laws : LawsBelow) (n : List Table) (agrees : Agrees n) (rules : ChainRules) (origin : Location) (p : ChainPart) (a : Admitted) (balanced : IsBalanced a.weight (first_stage rules origin a p)) where
  abbrev over : Machine → Machine
  over m = emptied laws.withdraws laws.moves laws.stays n agrees m

  -- ---- its first instruction is refused
  abbrev pub stopped : Instruction → XcmError → List Instruction → Machine
  stopped x e behind = machine (without_appendix (failed 0 e behind (started rules origin))) (traced parts.Program 0 x (Some e) (first_machine rules origin p)).part

  pub refused_next : (x : Instruction) (behind : List Instruction) (e : XcmError) → a.program ≡ x ∷ behind → refusal_of x (first_machine rules origin p) ≡ Some e → next xcm (first_stage rules origin a p) ≡ Ended (stopped x e behind)
  refused_next x behind e is no_way =
      ap (next xcm) (ap (λ (program : List Instruction). begin parts.Program program (first_machine rules origin p)) is) ∙ ap (by_answer xcm parts.Program 0 x behind (first_machine rules origin p)) no_way

  pub refused_inside : (x : Instruction) (behind : List Instruction) (e : XcmError) → a.program ≡ x ∷ behind → refusal_of x (first_machine rules origin p) ≡ Some e → (h : Stage) → GoesOnTo xcm (first_stage rules origin a p) h
      → Safely (first_machine rules origin p) (machine_of h) × ((machine_of h).part.cargo ≡ p.cargo)
  refused_inside x behind e is no_way h on =
      let m = first_machine rules origin p in
      let k = stopped x e behind in
      let same : k ≡ machine_of h = sym (ends_there (first_stage rules origin a p) h k (refused_next x behind e is no_way) on) in
      let event = Event.Ran parts.Program 0 (index (out-Instruction x)) (Some e) in (
        subst (Safely m) same (told_safely m event (without_appendix (failed 0 e behind (started rules origin))) refl),
        ap (λ (z : Machine). z.part.cargo) (sym same) ∙ told_cargo p event,
      )

  refused_reach : (x : Instruction) (behind : List Instruction) (e : XcmError) → a.program ≡ x ∷ behind → refusal_of x (first_machine rules origin p) ≡ Some e → Reaches xcm (first_stage rules origin a p) (Ended (stopped x e behind))
  refused_reach x behind e is no_way =
      let g = first_stage rules origin a p in
      let begins : g ≡ At parts.Program 0 x behind (first_machine rules origin p) = ap (λ (program : List Instruction). begin parts.Program program (first_machine rules origin p)) is in
      let ends : next xcm g ≡ Ended (stopped x e behind) = ap (next xcm) begins ∙ ap (by_answer xcm parts.Program 0 x behind (first_machine rules origin p)) no_way in
      subst (Reaches xcm g) ends (reaches_next xcm g g (reaches_here xcm g))

  pub stopped_steady : (x : Instruction) (behind : List Instruction) (e : XcmError) → IsAtRest p → IsSteady (stopped x e behind)
  stopped_steady x behind e rest =
      let s = told_steady (first_machine rules origin p) (Event.Ran parts.Program 0 (index (out-Instruction x)) (Some e)) (record { rest = rest; holding = λ u some. let z = amount-empty unit_keys u in absurd (omega (arith, z, some)) }) in
      record { rest = s.rest; holding = s.holding }

  pub refused_last : (x : Instruction) (behind : List Instruction) (e : XcmError) → a.program ≡ x ∷ behind → refusal_of x (first_machine rules origin p) ≡ Some e → stopped x e behind ≡ last_machine rules origin a p
  refused_last x behind e is no_way = sym (ap machine_of (run_reached xcm laws.orderly (first_stage rules origin a p) (stopped x e behind) (refused_reach x behind e is no_way)))

  pub refused_safely : (x : Instruction) (behind : List Instruction) (e : XcmError) → a.program ≡ x ∷ behind → refusal_of x (first_machine rules origin p) ≡ Some e → IsAtRest p → HasRoom none p
      → Safely (first_machine rules origin p) (over (last_machine rules origin a p)) × ((finished xcm (last_machine rules origin a p)).cargo ≡ p.cargo)
  refused_safely x behind e is no_way rest room =
      let g = first_stage rules origin a p in
      let m = first_machine rules origin p in
      let k = stopped x e behind in
      let last : k ≡ last_machine rules origin a p = refused_last x behind e is no_way in
      let told_so = told_safely m (Event.Ran parts.Program 0 (index (out-Instruction x)) (Some e)) (without_appendix (failed 0 e behind (started rules origin))) refl in
      let room_m : HasRoom (hold m) m.part = λ j. let le = room j in let z = total-empty unit_keys (is_unit_of j) in omega (arith, le, z) in
      let ended = finished_safely laws.withdraws laws.moves laws.stays n agrees laws.trapping k (stopped_steady x behind e rest) (keeps_room m k told_so room_m) in (
        subst (λ (z : Machine). Safely m (over z)) last (safely_then m k (over k) told_so ended),
        ap (λ (z : Machine). (finished xcm z).cargo) (sym last) ∙ finished_cargo k ∙ told_cargo p (Event.Ran parts.Program 0 (index (out-Instruction x)) (Some e)),
      )

  -- ---- one instruction, and no more
  abbrev pub alone : Instruction → Machine → Machine
  alone x k = machine (without_appendix (handler_dropped k.regs)) (traced parts.Program 0 x None k).part

  pub alone_next : (x : Instruction) → a.program ≡ x ∷ [] → refusal_of x (first_machine rules origin p) ≡ None → (xcm.done x (first_machine rules origin p)).regs.appendix ≡ [] → next xcm (first_stage rules origin a p) ≡ Ended (alone x (xcm.done x (first_machine rules origin p)))
  alone_next x is way no_appendix =
      ap (next xcm) (ap (λ (program : List Instruction). begin parts.Program program (first_machine rules origin p)) is) ∙ ap (by_answer xcm parts.Program 0 x [] (first_machine rules origin p)) way
      ∙ ap (λ (appendix : List Instruction). begin parts.Appendix appendix (alone x (xcm.done x (first_machine rules origin p)))) no_appendix

  pub alone_inside : (x : Instruction) → a.program ≡ x ∷ [] → refusal_of x (first_machine rules origin p) ≡ None → (xcm.done x (first_machine rules origin p)).regs.appendix ≡ [] → (h : Stage) → GoesOnTo xcm (first_stage rules origin a p) h
      → Safely (xcm.done x (first_machine rules origin p)) (machine_of h)
  alone_inside x is way no_appendix h on =
      let k = xcm.done x (first_machine rules origin p) in
      let event = Event.Ran parts.Program 0 (index (out-Instruction x)) None in
      subst (Safely k) (sym (ends_there (first_stage rules origin a p) h (alone x k) (alone_next x is way no_appendix) on)) (told_safely k event (without_appendix (handler_dropped k.regs)) refl)

  pub alone_last : (x : Instruction) → a.program ≡ x ∷ [] → refusal_of x (first_machine rules origin p) ≡ None → (xcm.done x (first_machine rules origin p)).regs.appendix ≡ [] → alone x (xcm.done x (first_machine rules origin p)) ≡ last_machine rules origin a p
  alone_last x is way no_appendix =
      let g = first_stage rules origin a p in
      let k = alone x (xcm.done x (first_machine rules origin p)) in
      sym (ap machine_of (run_reached xcm laws.orderly g k (subst (Reaches xcm g) (alone_next x is way no_appendix) (reaches_next xcm g g (reaches_here xcm g)))))

  pub alone_safely : (x : Instruction) → a.program ≡ x ∷ [] → refusal_of x (first_machine rules origin p) ≡ None → (xcm.done x (first_machine rules origin p)).regs.appendix ≡ [] → IsSteady (xcm.done x (first_machine rules origin p))
      → HasRoom (hold (xcm.done x (first_machine rules origin p))) (xcm.done x (first_machine rules origin p)).part → Safely (xcm.done x (first_machine rules origin p)) (over (last_machine rules origin a p))
  alone_safely x is way no_appendix steady room =
      let k = xcm.done x (first_machine rules origin p) in
      let e = Event.Ran parts.Program 0 (index (out-Instruction x)) None in
      let last : alone x k ≡ last_machine rules origin a p = alone_last x is way no_appendix in
      let told_so = told_safely k e (without_appendix (handler_dropped k.regs)) refl in
      let s = told_steady k e steady in
      let ended = finished_safely laws.withdraws laws.moves laws.stays n agrees laws.trapping (alone x k) (record { rest = s.rest; holding = s.holding }) (keeps_room k (alone x k) told_so room) in
      subst (λ (z : Machine). Safely k (over z)) last (safely_then k (alone x k) (over (alone x k)) told_so ended)

  -- ---- a first instruction, ClearOrigin, and more
  abbrev cleared : Instruction → Machine → Machine
  cleared x k = traced parts.Program (0 + 1) second None (done Instruction-F.ClearOrigin (traced parts.Program 0 x None k))

  clear_reach : (x : Instruction) (behind : List Instruction) → a.program ≡ x ∷ second ∷ behind → refusal_of x (first_machine rules origin p) ≡ None
      → Reaches xcm (first_stage rules origin a p) (go_on parts.Program ((0 + 1) + 1) behind (cleared x (xcm.done x (first_machine rules origin p))))
  clear_reach x behind is way =
      let g = first_stage rules origin a p in
      let m = first_machine rules origin p in
      let k = traced parts.Program 0 x None (xcm.done x m) in
      let begins : g ≡ At parts.Program 0 x (second ∷ behind) m = ap (λ (program : List Instruction). begin parts.Program program m) is in
      let once : next xcm g ≡ At parts.Program (0 + 1) second behind k = ap (next xcm) begins ∙ ap (by_answer xcm parts.Program 0 x (second ∷ behind) m) way in
      let clears : refusal_of second k ≡ None = ap (λ (l : Instruction-F Instruction). refused l k) (out-roll-Instruction Instruction-F.ClearOrigin) in
      let twice : next xcm (At parts.Program (0 + 1) second behind k) ≡ go_on parts.Program ((0 + 1) + 1) behind (cleared x (xcm.done x m)) =
      ap (by_answer xcm parts.Program (0 + 1) second behind k) clears
      ∙ ap (λ (l : Instruction-F Instruction). go_on parts.Program ((0 + 1) + 1) behind (traced parts.Program (0 + 1) second None (done l k))) (out-roll-Instruction Instruction-F.ClearOrigin) in
      let first = subst (Reaches xcm g) once (reaches_next xcm g g (reaches_here xcm g)) in
      subst (Reaches xcm g) twice (reaches_next xcm g (At parts.Program (0 + 1) second behind k) first)

  pub led_once : (x : Instruction) (behind : List Instruction) → a.program ≡ x ∷ second ∷ behind → refusal_of x (first_machine rules origin p) ≡ None
      → next xcm (first_stage rules origin a p) ≡ At parts.Program (0 + 1) second behind (traced parts.Program 0 x None (xcm.done x (first_machine rules origin p)))
  led_once x behind is way =
      ap (next xcm) (ap (λ (program : List Instruction). begin parts.Program program (first_machine rules origin p)) is) ∙ ap (by_answer xcm parts.Program 0 x (second ∷ behind) (first_machine rules origin p)) way

  led_twice : (x : Instruction) (behind : List Instruction) (k : Machine) → next xcm (At parts.Program (0 + 1) second behind (traced parts.Program 0 x None k)) ≡ go_on parts.Program ((0 + 1) + 1) behind (cleared x k)
  led_twice x behind k =
      let m = traced parts.Program 0 x None k in
      ap (by_answer xcm parts.Program (0 + 1) second behind m) (ap (λ (l : Instruction-F Instruction). refused l m) (out-roll-Instruction Instruction-F.ClearOrigin))
      ∙ ap (λ (l : Instruction-F Instruction). go_on parts.Program ((0 + 1) + 1) behind (traced parts.Program (0 + 1) second None (done l m))) (out-roll-Instruction Instruction-F.ClearOrigin)

  -- a program that begins so, and a machine on which it may go on
  pub record IsSetBehind (x : Instruction) (behind : List Instruction) : Type 0 where
    pub is : a.program ≡ x ∷ second ∷ behind
    pub way : refusal_of x (first_machine rules origin p) ≡ None
    pub ahead : IsAheadOf AreLists (first_stage rules origin a p)
    pub set : IsSet n (xcm.done x (first_machine rules origin p))

  own_origin_none : IsOwnOrigin None
  own_origin_none l e = absurd cc

  cleared_set : (x : Instruction) (k : Machine) → IsSet n k → IsSafeAt n (cleared x k) × Safely k (cleared x k)
  cleared_set x k set =
      let e = Event.Ran parts.Program 0 (index (out-Instruction x)) None in
      let f = Event.Ran parts.Program (0 + 1) (index (out-Instruction second)) None in
      let one : Machine = machine k.regs (told k.part e) in
      let first = told_safely k e k.regs refl in
      let two = told_safely one f (record k.regs { origin = None }) refl in
      let both = safely_then k one (cleared x k) first two in
      let steady_one = told_steady k e set.steady in
      let steady = told_steady one f steady_one in (
        record {
          fine = record {
            spared = caller_spared (cleared x k) own_origin_none;
            room = keeps_room k (cleared x k) both set.room;
            listed = steady.holding;
            within = set.within;
            there = subst (IsIn n) (sym (told_table (told k.part e) f ∙ told_table k.part e)) set.there;
          };
          own_origin = own_origin_none;
          steady = record { rest = steady.rest; holding = steady.holding };
          fees = subst (AllByRecursion HasFee) (sym both.links) set.fees;
        },
        both,
      )

  goes_on : (part : places.Part) (place : ℕ) (behind : List Instruction) (m : Machine) → IsSafeAt n m → IsSafeAt n (machine_of (go_on part place behind m)) × Safely m (machine_of (go_on part place behind m))
  goes_on part place [] m safe =
      let dropped = registers_go n m (handler_dropped m.regs) refl refl safe in
      let k : Machine = record m { regs = handler_dropped m.regs } in
      let taken = registers_go n k (without_appendix k.regs) refl refl dropped.0 in
      let last : Machine = record k { regs = without_appendix k.regs } in
      let same : last ≡ machine_of (go_on part place [] m) = sym (begin_machine parts.Appendix k.regs.appendix last) in (
        subst (IsSafeAt n) same taken.0,
        subst (Safely m) same (safely_then m k last dropped.1 taken.1),
      )
  goes_on part place (x ∷ behind) m safe = registers_go n m m.regs refl refl safe

  -- the run is past ClearOrigin
  come_on : (x : Instruction) (behind : List Instruction) → IsSetBehind x behind → (count : ℕ)
      → let h = go_on parts.Program ((0 + 1) + 1) behind (cleared x (xcm.done x (first_machine rules origin p))) in IsSafeAt n (machine_of (steps xcm count h)) × Safely (xcm.done x (first_machine rules origin p)) (machine_of (steps xcm count h))
  come_on x behind s count =
      let g = first_stage rules origin a p in
      let k = xcm.done x (first_machine rules origin p) in
      let m = cleared x k in
      let h = go_on parts.Program ((0 + 1) + 1) behind m in
      let reach = clear_reach x behind s.is s.way in
      let begun = cleared_set x k s.set in
      let on = goes_on parts.Program ((0 + 1) + 1) behind m begun.0 in
      let rest = steps_go laws.withdraws laws.moves laws.stays n agrees laws.orderly a.weight count h (reached_balanced xcm laws.orderly a.weight g h reach balanced) (reached_hold xcm laws.orderly AreLists lists_go_inside g h reach s.ahead) on.0 in
      (rest.0, safely_then k m (machine_of (steps xcm count h)) begun.1 (safely_then m (machine_of h) (machine_of (steps xcm count h)) on.1 rest.1))

  -- where its last instruction left it
  pub led_last : (x : Instruction) (behind : List Instruction) → IsSetBehind x behind → IsSafeAt n (last_machine rules origin a p) × Safely (xcm.done x (first_machine rules origin p)) (last_machine rules origin a p)
  led_last x behind s =
      let g = first_stage rules origin a p in
      let k = xcm.done x (first_machine rules origin p) in
      let h = go_on parts.Program ((0 + 1) + 1) behind (cleared x k) in
      let came = come_on x behind s (still_to_run h) in
      let same : machine_of (run xcm h) ≡ last_machine rules origin a p = ap machine_of (sym (run_from xcm laws.orderly g h (clear_reach x behind s.is s.way))) in
      (subst (IsSafeAt n) same came.0, subst (Safely k) same came.1)

  pub led_safely : (x : Instruction) (behind : List Instruction) → IsSetBehind x behind → Safely (xcm.done x (first_machine rules origin p)) (over (last_machine rules origin a p))
  led_safely x behind s =
      let k = xcm.done x (first_machine rules origin p) in
      let m = last_machine rules origin a p in
      let last = led_last x behind s in
      safely_then k m (over m) last.1 (finished_safely laws.withdraws laws.moves laws.stays n agrees laws.trapping m last.0.steady last.0.fine.room)

  pub led_on : (x : Instruction) (behind : List Instruction) → IsSetBehind x behind → (count : ℕ)
      → IsSafeAt n (machine_of (steps xcm (suc count) (next xcm (first_stage rules origin a p)))) × Safely (xcm.done x (first_machine rules origin p)) (machine_of (steps xcm (suc count) (next xcm (first_stage rules origin a p))))
  led_on x behind s count =
      let g = first_stage rules origin a p in
      let k = xcm.done x (first_machine rules origin p) in
      let h = go_on parts.Program ((0 + 1) + 1) behind (cleared x k) in
      let there : steps xcm (suc count) (next xcm g) ≡ steps xcm count h = step_on count (next xcm g) ∙ ap (steps xcm count) (ap (next xcm) (led_once x behind s.is s.way) ∙ led_twice x behind k) in
      let came = come_on x behind s count in
      (subst (λ (z : Stage). IsSafeAt n (machine_of z)) (sym there) came.0, subst (λ (z : Stage). Safely k (machine_of z)) (sym there) came.1)

  -- wherever it comes after its first instruction
  led_at : (x : Instruction) (behind : List Instruction) → IsSetBehind x behind → (count : ℕ) → Safely (xcm.done x (first_machine rules origin p)) (machine_of (steps xcm count (next xcm (first_stage rules origin a p))))
  led_at x behind s zero =
      let k = xcm.done x (first_machine rules origin p) in
      let event = Event.Ran parts.Program 0 (index (out-Instruction x)) None in
      subst (λ (g : Stage). Safely k (machine_of g)) (sym (stays_here (next xcm (first_stage rules origin a p)) ∙ led_once x behind s.is s.way)) (told_safely k event k.regs refl)
  led_at x behind s (suc count) = (led_on x behind s count).1

  pub led_inside : (x : Instruction) (behind : List Instruction) → IsSetBehind x behind → (h : Stage) → GoesOnTo xcm (first_stage rules origin a p) h → Safely (xcm.done x (first_machine rules origin p)) (machine_of h)
  led_inside x behind s h on =
      subst (λ (z : Stage). Safely (xcm.done x (first_machine rules origin p)) (machine_of z)) (sym (step_on on.0 (first_stage rules origin a p)) ∙ on.1) (led_at x behind s on.0)
