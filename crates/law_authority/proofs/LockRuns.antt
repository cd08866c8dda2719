-- What runs and executions do to floors and locks, also where memory is refused.
use Rattle.std.proofs.Common.{◌≡◌, ◌⊎◌, ℕ, zero, suc, ◌+◌, List, [], ◌∷◌, ◌++◌, Option, Some, None, Result, Ok, Err, ⊎_elim, refl, sym, ap, ◌∙◌, subst, append_assoc}
use Rattle.std.proofs.lemmas.List.{append-nil}
use Rattle.std.specs.List.{AllByRecursion}
use Rattle.locations.specs.declared.grammar.Junction.{Junction}
use Rattle.locations.specs.declared.relative.Location.{Location}
use Rattle.operands.specs.declared.error.XcmError.{XcmError}
use Rattle.operands.specs.declared.weight.Weight.{Weight}
use Rattle.asset_locks.specs.LockMaps.{LockKey, LocksAndNotes}
use Rattle.trust_tables.specs.declared.chains.Site.{Site}
use Rattle.xcm_program.specs.declared.instruction.Instruction.{Instruction}
use Rattle.xcm_program.specs.declared.instruction.Instruction.TheOpen.{Instruction-F}
use Rattle.xcm_program.specs.declared.outcome.Outcome.{Outcome}
use Rattle.exec_base.specs.declared.event.Part.{Part}
use Rattle.exec_base.specs.declared.event.Part.TheVariants.{Program, Appendix}
use Rattle.exec_base.specs.declared.registers.Registers.{Registers}
use Rattle.exec_base.specs.Part.{ChainPart}
use Rattle.exec_base.specs.Host.{told}
use Rattle.exec_rules.specs.Machine.{Machine, IsOrderly}
use Rattle.exec_rules.specs.Run.{Stage, At, Ended, begin, to_appendix, to_handler, go_on, failed, without_appendix, handler_dropped, traced, by_answer, next, steps, machine_of, run, still_to_run, Reaches, StoppedIn}
use Rattle.exec_rules.specs.Outcome.{abandoned, finished, HaltedAtEnd}
use Rattle.exec_rules.specs.Keeping.{IsAheadOf}
use Rattle.exec_rules.proofs.Lemmas.KeepingLaws.{begin_machine}
use Rattle.exec_rules.specs.Origins.{descended}
use Rattle.exec_rules.specs.Instructions.{refusal_of, xcm}
use Rattle.exec_rules.specs.Stopping.{leaves_on_oom}
use Rattle.exec_rules.specs.declared.rules.ChainRules.{ChainRules}
use Rattle.exec_rules.specs.declared.admission.Admitted.{Admitted}
use Rattle.exec_rules.specs.Admission.{admitted}
use Rattle.exec_rules.specs.Execution.{first_machine, first_stage, last_machine, executed_by, executed, AbandonedIn, IsAbandoned}
use Rattle.exec_rules.specs.HostCalls.{MachineWithGoods, between, MachineCall, after}
use Rattle.exec_rules.specs.Reasons.{IsFrom, Moment, HasReason, TurnsOrigin}
use Rattle.exec_rules.proofs.Lemmas.Reasons.{ComesAtEnd}
use Rattle.exec_rules.specs.Kept.{IsKeptByCalls}
use Rattle.exec_rules.proofs.Lemmas.Kept.{IsKeptAtEnd}
use Rattle.exec_rules.proofs.Lemmas.KeptLaws.{any_kind, reached_kept, kept_at_end, ran_kept, abandoned_in_kept, keeps_executed, keeps_abandoned, finished_kept, abandoned_kept, at_end_kept}
use Rattle.network_steps.specs.Acting.{caller}
use Rattle.law_authority.specs.Origins.{speaker_at, IsAtOrBelow}
use Rattle.law_steps.specs.Calm.{MuteAt}
use Rattle.law_authority.specs.Floors.{KeepsChainFloors, FallsOnly, RisesOnly, WaitInOrder}
use Rattle.law_authority.proofs.Locking.{same_falls, same_rises, then_falls, then_rises}
use Rattle.law_authority.proofs.LockActs.{Holding, call_keeps, call_falls, call_rises, done_none, halted_none}
use Rattle.law_authority.proofs.Lemmas.WaitingLaws.{call_lists}
use Rattle.law_authority.proofs.Lemmas.ListLaws.{open_list, inside_lists, refund_lists, program_ahead, lists_ahead}
use Rattle.law_runs.specs.Safety.{AreLists}
use Rattle.law_steps.proofs.Lemmas.Admitting.{admitted_lists}

-- ---- floors
module _ (holding : Holding) (orderly : IsOrderly xcm) where
  abbrev Floors : MachineWithGoods → Type 0
  Floors t = KeepsChainFloors t.part

  floors_are_kept : IsKeptByCalls AreLists Floors
  floors_are_kept = record { refunds = refund_lists; called = λ x l is q moment m t c k asks from ok floors. call_keeps holding moment l m c t (open_list x l is q) asks ok floors; turned = λ t r turns floors. floors }

  pub reached_floors : (g h : Stage) → Reaches xcm g h → IsAheadOf AreLists g → KeepsChainFloors (machine_of g).part → KeepsChainFloors (machine_of h).part
  reached_floors g h r ahead floors = reached_kept AreLists Floors floors_are_kept g h (lists_ahead orderly g ahead) r floors

  -- and the lists of what waits stay in order
  abbrev Both : MachineWithGoods → Type 0
  Both t = KeepsChainFloors t.part × WaitInOrder t.part

  both_kept : IsKeptByCalls AreLists Both
  both_kept = record {
    refunds = refund_lists;
    called = λ x l is q moment m t c k asks from ok h. (call_keeps holding moment l m c t (open_list x l is q) asks ok h.0, call_lists moment l m c t (inside_lists x l is q) asks ok h.1);
    turned = λ t r turns h. h;
  }

  module _ (rules : ChainRules) (origin : Location) (credit : Weight) (program : List Instruction) (p : ChainPart) (lists : AllByRecursion AreLists program) where
    ahead_of : (a : Admitted) → admitted rules origin credit p.queries program ≡ Ok a → (k : ℕ) → IsAheadOf AreLists (steps xcm k (first_stage rules origin a p))
    ahead_of a e k = program_ahead orderly a.program (first_machine rules origin p) refl refl (admitted_lists rules origin credit p.queries program lists a e) k

    by_admission : (r : Result Admitted Outcome) → ((a : Admitted) → r ≡ Ok a → (k : ℕ) → IsAheadOf AreLists (steps xcm k (first_stage rules origin a p))) → KeepsChainFloors p → KeepsChainFloors (executed_by rules origin r p).1
    by_admission (Err outcome) ahead floors = floors
    by_admission (Ok a) ahead floors =
        (finished_kept Floors (kept_at_end AreLists Floors floors_are_kept) (last_machine rules origin a p) (ran_kept AreLists Floors floors_are_kept rules origin a p (ahead a refl) floors)).kept

    both_by_admission : (r : Result Admitted Outcome) → ((a : Admitted) → r ≡ Ok a → (k : ℕ) → IsAheadOf AreLists (steps xcm k (first_stage rules origin a p)))
        → KeepsChainFloors p × WaitInOrder p → KeepsChainFloors (executed_by rules origin r p).1 × WaitInOrder (executed_by rules origin r p).1
    both_by_admission (Err outcome) ahead h = h
    both_by_admission (Ok a) ahead h = (finished_kept Both (kept_at_end AreLists Both both_kept) (last_machine rules origin a p) (ran_kept AreLists Both both_kept rules origin a p (ahead a refl) h)).kept

    pub executed_both : KeepsChainFloors p × WaitInOrder p → KeepsChainFloors (executed rules origin credit program p).1 × WaitInOrder (executed rules origin credit program p).1
    executed_both h = both_by_admission (admitted rules origin credit p.queries program) ahead_of h

    pub executed_floors : KeepsChainFloors p → KeepsChainFloors (executed rules origin credit program p).1
    executed_floors floors = by_admission (admitted rules origin credit p.queries program) ahead_of floors

    pub stopped_floors : (now : ChainPart) → IsAbandoned rules origin credit program p now → KeepsChainFloors p → KeepsChainFloors now
    stopped_floors now h floors = (abandoned_in_kept AreLists Floors floors_are_kept rules origin h.0 p now (ahead_of h.0 h.1) h.2 floors).kept

-- ---- the origin register of a run
longer : (first who : Location) (path : List Junction) → IsAtOrBelow first (Some who) → IsAtOrBelow first (Some (descended who path))
longer first who path h = (h.0 ++ path, ap (λ (l : Location). descended l path) h.1 ∙ ap (λ (js : List Junction). let l : Location = record first { interior = js } in l) (append_assoc first.interior h.0 path))

below_turned : (first : Location) (old new : Option Location) → TurnsOrigin old new → IsAtOrBelow first old → IsAtOrBelow first new
below_turned first old new turns h =
    ⊎_elim (λ (e : new ≡ old). subst (IsAtOrBelow first) (sym e) h)
    (λ (rest : (new ≡ None) ⊎ ((who : Location) × (path : List Junction) × (old ≡ Some who) × (new ≡ Some (descended who path)))).
    ⊎_elim (λ (e : new ≡ None). subst (IsAtOrBelow first) (sym e) tt)
    (λ (d : (who : Location) × (path : List Junction) × (old ≡ Some who) × (new ≡ Some (descended who path))). subst (IsAtOrBelow first) (sym d.3) (longer first d.0 d.1 (subst (IsAtOrBelow first) d.2 h))) rest) turns

starts_at : (origin : Location) → IsAtOrBelow origin (Some origin)
starts_at origin = ([], ap (λ (js : List Junction). let l : Location = record origin { interior = js } in l) (sym (append-nil origin.interior)))

origin_after : (c : MachineCall) (t : MachineWithGoods) → (after c t).regs.origin ≡ t.regs.origin
origin_after (MachineCall.Take filter) t = refl
origin_after _ t = refl

site_after : (c : MachineCall) (t : MachineWithGoods) → (after c t).part.site ≡ t.part.site
site_after (MachineCall.Take filter) t = refl
site_after _ t = refl

-- ---- locks fall for an origin at or below the run's
record Loosens (origin : Location) (start : LocksAndNotes) (t : MachineWithGoods) : Type 0 where
  below : IsAtOrBelow origin t.regs.origin
  falls : FallsOnly (λ (key : LockKey). IsAtOrBelow origin (Some key.2)) start t.part.locked

loosens_called : (origin : Location) (start : LocksAndNotes) (moment : Moment) (l : Instruction-F Instruction) (m : Machine) (t : MachineWithGoods) (c : MachineCall) → HasReason moment l m t c → IsFrom m t → Loosens origin start t → Loosens origin start (after c t)
loosens_called origin start moment l m t c asks from h =
    let below : IsAtOrBelow origin m.regs.origin = subst (IsAtOrBelow origin) (ap (λ (r : Registers). r.origin) from.regs) h.below in
    record {
      below = subst (IsAtOrBelow origin) (sym (origin_after c t)) h.below;
      falls = then_falls (λ (key : LockKey). IsAtOrBelow origin (Some key.2)) start t.part.locked (after c t).part.locked h.falls
          (λ key less. subst (IsAtOrBelow origin) (call_falls moment l m c t asks key less).0 below);
    }

loosens_is_kept : (origin : Location) (start : LocksAndNotes) → IsKeptByCalls any_kind (Loosens origin start)
loosens_is_kept origin start = record {
  refunds = tt;
  called = λ x l is q moment m t c k asks from ok h. loosens_called origin start moment l m t c asks from h;
  turned = λ t r turns h. record { below = below_turned origin t.regs.origin r.origin turns.origin h.below; falls = h.falls };
}

module _ (rules : ChainRules) (origin : Location) (credit : Weight) (program : List Instruction) (p : ChainPart) where
  loosens_first : Loosens origin p.locked (between (first_machine rules origin p))
  loosens_first = record { below = starts_at origin; falls = same_falls (λ (key : LockKey). IsAtOrBelow origin (Some key.2)) p.locked }

  pub executed_falls : FallsOnly (λ (key : LockKey). IsAtOrBelow origin (Some key.2)) p.locked (executed rules origin credit program p).1.locked
  executed_falls = (keeps_executed (Loosens origin p.locked) (loosens_is_kept origin p.locked) rules origin credit program p loosens_first).kept.falls

  pub stopped_falls : (now : ChainPart) → IsAbandoned rules origin credit program p now → FallsOnly (λ (key : LockKey). IsAtOrBelow origin (Some key.2)) p.locked now.locked
  stopped_falls now h = (keeps_abandoned (Loosens origin p.locked) (loosens_is_kept origin p.locked) rules origin credit program p now h loosens_first).kept.falls

-- ---- a local caller locks its own account alone
record Locks (account : List ℕ) (start : LocksAndNotes) (t : MachineWithGoods) : Type 0 where
  below : IsAtOrBelow (caller account) t.regs.origin
  rises : RisesOnly (λ (key : LockKey). key.0 ≡ account) start t.part.locked

same_account : (a b : List ℕ) → Some a ≡ Some b → b ≡ a
same_account a b e = cc

below_speaks : (account : List ℕ) (site : Site) (path : List Junction) (who : List ℕ) → speaker_at site (Some (descended (caller account) path)) ≡ Some who → who ≡ account
below_speaks account site [] who e = same_account account who e
below_speaks account site (j ∷ path) who e = absurd (cc e)

local_speaks : (account : List ℕ) (site : Site) (o : Option Location) (who : List ℕ) → IsAtOrBelow (caller account) o → speaker_at site o ≡ Some who → who ≡ account
local_speaks account site None who h e = absurd (cc e)
local_speaks account site (Some l) who h e = below_speaks account site h.0 who (subst (λ (l : Location). speaker_at site (Some l) ≡ Some who) h.1 e)

locks_called : (account : List ℕ) (start : LocksAndNotes) (moment : Moment) (l : Instruction-F Instruction) (m : Machine) (t : MachineWithGoods) (c : MachineCall) → HasReason moment l m t c → IsFrom m t → Locks account start t → Locks account start (after c t)
locks_called account start moment l m t c asks from h =
    let below : IsAtOrBelow (caller account) m.regs.origin = subst (IsAtOrBelow (caller account)) (ap (λ (r : Registers). r.origin) from.regs) h.below in
    record {
      below = subst (IsAtOrBelow (caller account)) (sym (origin_after c t)) h.below;
      rises = then_rises (λ (key : LockKey). key.0 ≡ account) start t.part.locked (after c t).part.locked h.rises
          (λ key more. local_speaks account t.part.site m.regs.origin key.0 below (call_rises moment l m c t asks key more));
    }

locks_is_kept : (account : List ℕ) (start : LocksAndNotes) → IsKeptByCalls any_kind (Locks account start)
locks_is_kept account start = record {
  refunds = tt;
  called = λ x l is q moment m t c k asks from ok h. locks_called account start moment l m t c asks from h;
  turned = λ t r turns h. record { below = below_turned (caller account) t.regs.origin r.origin turns.origin h.below; rises = h.rises };
}

module _ (rules : ChainRules) (account : List ℕ) (credit : Weight) (program : List Instruction) (p : ChainPart) where
  locks_first : Locks account p.locked (between (first_machine rules (caller account) p))
  locks_first = record { below = starts_at (caller account); rises = same_rises (λ (key : LockKey). key.0 ≡ account) p.locked }

  pub local_rises : RisesOnly (λ (key : LockKey). key.0 ≡ account) p.locked (executed rules (caller account) credit program p).1.locked
  local_rises = (keeps_executed (Locks account p.locked) (locks_is_kept account p.locked) rules (caller account) credit program p locks_first).kept.rises

  pub local_stopped : (now : ChainPart) → IsAbandoned rules (caller account) credit program p now → RisesOnly (λ (key : LockKey). key.0 ≡ account) p.locked now.locked
  local_stopped now h = (keeps_abandoned (Locks account p.locked) (locks_is_kept account p.locked) rules (caller account) credit program p now h locks_first).kept.rises

-- ---- a message locks nothing: where its instructions would, there is no origin
abbrev pub NoKey : LockKey → Type 0
NoKey key = ⊥

end_same : (l0 : LocksAndNotes) (c : MachineCall) (t : MachineWithGoods) → ComesAtEnd c → t.part.locked ≡ l0 → (after c t).part.locked ≡ l0
end_same l0 (MachineCall.Lock a owner unlocker) t comes h = absurd comes
end_same l0 (MachineCall.Unlock a target from) t comes h = absurd comes
end_same l0 (MachineCall.Note a owner from) t comes h = absurd comes
end_same l0 (MachineCall.Request a owner locker) t comes h = absurd comes
end_same l0 _ t comes h = h

abbrev Stays : LocksAndNotes → MachineWithGoods → Type 0
Stays l0 t = t.part.locked ≡ l0

stays_at_end : (l0 : LocksAndNotes) → IsKeptAtEnd (Stays l0)
stays_at_end l0 = record { closing = λ m t c k asks comes from ok h. end_same l0 c t comes h; closed = λ t r holding origin h. h }

pub finished_same : (m : Machine) → (finished xcm m).locked ≡ m.part.locked
finished_same m = (finished_kept (Stays m.part.locked) (stays_at_end m.part.locked) m refl).kept

at_end_same : (m : Machine) (now : ChainPart) → HaltedAtEnd xcm leaves_on_oom m now → now.locked ≡ m.part.locked
at_end_same m now h = (at_end_kept (Stays m.part.locked) (stays_at_end m.part.locked) m now h refl).kept

abandoned_same : (m : Machine) (now : ChainPart) → now ≡ abandoned m.regs m.part → now.locked ≡ m.part.locked
abandoned_same m now is = (abandoned_kept (Stays m.part.locked) (stays_at_end m.part.locked) m now is refl).kept

abbrev locked_of : Stage → LocksAndNotes
locked_of g = (machine_of g).part.locked

begin_same : (part : Part) (program : List Instruction) (m : Machine) → locked_of (begin part program m) ≡ m.part.locked
begin_same part program m = ap (λ (n : Machine). n.part.locked) (begin_machine part program m)

to_appendix_same : (m : Machine) → locked_of (to_appendix m) ≡ m.part.locked
to_appendix_same m = begin_same Appendix m.regs.appendix (record m { regs = without_appendix m.regs })

to_handler_same : (handler : List Instruction) (m : Machine) → locked_of (to_handler handler m) ≡ m.part.locked
to_handler_same [] m = to_appendix_same m
to_handler_same (x ∷ behind) m = refl

go_on_same : (part : Part) (place : ℕ) (behind : List Instruction) (m : Machine) → locked_of (go_on part place behind m) ≡ m.part.locked
go_on_same part place [] m = to_appendix_same (record m { regs = handler_dropped m.regs })
go_on_same part place (x ∷ behind) m = refl

module _ (start : LocksAndNotes) where
  abbrev NoneRose : Stage → Type 0
  NoneRose g = RisesOnly NoKey start (locked_of g)

  by_answer_none : (part : Part) (place : ℕ) (x : Instruction) (behind : List Instruction) (m : Machine) (o : Option XcmError) → RisesOnly NoKey start (xcm.done x m).part.locked → RisesOnly NoKey start m.part.locked → NoneRose (by_answer xcm part place x behind m o)
  unfolding told
  by_answer_none part place x behind m None ran before = subst (RisesOnly NoKey start) (sym (go_on_same part (place + 1) behind (traced part place x None (xcm.done x m)))) ran
  by_answer_none part place x behind m (Some e) ran before =
      subst (RisesOnly NoKey start) (sym (to_handler_same m.regs.handler (record (traced part place x (Some e) m) { regs = failed place e behind m.regs }))) before

  next_none : (g : Stage) → MuteAt g → NoneRose g → NoneRose (next xcm g)
  next_none (At part place x behind m) mute none = by_answer_none part place x behind m (refusal_of x m) (done_none x m NoKey start mute none) none
  next_none (Ended m) mute none = none

  steps_none : (n : ℕ) (g : Stage) → ((k : ℕ) → MuteAt (steps xcm k g)) → NoneRose g → NoneRose (steps xcm n g)
  unfolding steps
  steps_none zero g mute none = none
  steps_none (suc n) g mute none = steps_none n (next xcm g) (λ k. mute (suc k)) (next_none g (mute 0) none)

  reached_none : (g h : Stage) → Reaches xcm g h → ((k : ℕ) → MuteAt (steps xcm k g)) → NoneRose g → NoneRose h
  reached_none g h r mute none = subst NoneRose r.1 (steps_none r.0 g mute none)

module _ (rules : ChainRules) (origin : Location) (p : ChainPart) where
  first_none : (a : Admitted) → RisesOnly NoKey p.locked (locked_of (first_stage rules origin a p))
  first_none a = subst (RisesOnly NoKey p.locked) (sym (begin_same Program a.program (first_machine rules origin p))) (same_rises NoKey p.locked)

  last_none : (a : Admitted) → ((k : ℕ) → MuteAt (steps xcm k (first_stage rules origin a p))) → RisesOnly NoKey p.locked (last_machine rules origin a p).part.locked
  last_none a mute = reached_none p.locked (first_stage rules origin a p) (run xcm (first_stage rules origin a p)) (still_to_run (first_stage rules origin a p), refl) mute (first_none a)

  pub message_rises : (r : Result Admitted Outcome) → ((a : Admitted) → r ≡ Ok a → (k : ℕ) → MuteAt (steps xcm k (first_stage rules origin a p))) → RisesOnly NoKey p.locked (executed_by rules origin r p).1.locked
  message_rises (Err outcome) mute = same_rises NoKey p.locked
  message_rises (Ok a) mute = subst (RisesOnly NoKey p.locked) (sym (finished_same (last_machine rules origin a p))) (last_none a (mute a refl))

  pub message_stopped : (a : Admitted) (now : ChainPart) → ((k : ℕ) → MuteAt (steps xcm k (first_stage rules origin a p))) → AbandonedIn rules origin a p now → RisesOnly NoKey p.locked now.locked
  message_stopped a now mute h =
      ⊎_elim
      (λ (s : (stopped : Machine) × StoppedIn xcm leaves_on_oom (first_stage rules origin a p) stopped × (now ≡ abandoned stopped.regs stopped.part)).
      subst (RisesOnly NoKey p.locked) (sym (abandoned_same s.0 now s.2)) (by_stop s.0 s.1))
      (λ (e : HaltedAtEnd xcm leaves_on_oom (last_machine rules origin a p) now). subst (RisesOnly NoKey p.locked) (sym (at_end_same (last_machine rules origin a p) now e)) (last_none a mute)) h
    where
      by_stop : (left : Machine) → StoppedIn xcm leaves_on_oom (first_stage rules origin a p) left → RisesOnly NoKey p.locked left.part.locked
      by_stop left s =
          let before : RisesOnly NoKey p.locked s.before.part.locked = reached_none p.locked (first_stage rules origin a p) (At s.part s.place s.which s.behind s.before) s.reached mute (first_none a) in
          let here : MuteAt (At s.part s.place s.which s.behind s.before) = subst MuteAt s.reached.1 (mute s.reached.0) in
          halted_none s.which s.before NoKey p.locked here left s.halted before
