-- Lemmas: a run that burns no excess wherever it is burns none at its end, nor where memory is refused to it. A reader may skip this file.
use Rattle.std.proofs.Common.{◌≡◌, ⊎_elim, List, None, Result, Ok, Err, refl, sym, subst}
use Rattle.std.specs.Prelude.{⊤}
use Rattle.locations.specs.declared.relative.Location.{Location}
use Rattle.operands.specs.declared.error.XcmError.{XcmError}
use Rattle.operands.specs.declared.weight.Weight.{Weight}
use Rattle.xcm_program.specs.declared.instruction.Instruction.{Instruction, out-Instruction}
use Rattle.exec_base.specs.Part.{ChainPart}
use Rattle.exec_rules.specs.Machine.{Machine, Performed}
use Rattle.exec_rules.specs.Run.{Stage, At, Ended, run, still_to_run, machine_of, Reaches, StoppedIn}
use Rattle.exec_rules.specs.Accounts.{IsBalanced}
use Rattle.exec_rules.specs.Keeping.{IsAheadOf}
use Rattle.exec_rules.proofs.Lemmas.KeepingLaws.{reached_hold, reached_keeps}
use Rattle.exec_rules.specs.Outcome.{abandoned, finished, HaltedAtEnd}
use Rattle.exec_rules.specs.Instructions.{refusal_of, xcm}
use Rattle.exec_rules.specs.Readiness.{IsSteady}
use Rattle.exec_rules.specs.Stopping.{leaves_on_oom}
use Rattle.exec_rules.specs.declared.rules.ChainRules.{ChainRules}
use Rattle.exec_rules.specs.declared.admission.Admitted.{Admitted}
use Rattle.exec_rules.specs.Execution.{first_stage, last_machine, AbandonedIn}
use Rattle.law_coherence.specs.Networks.{Table, Agrees}
use Rattle.law_runs.specs.Sums.{HasRoom}
use Rattle.law_runs.specs.Safety.{AreLists, hold}
use Rattle.law_runs.specs.Runs.{IsSafeAt}
use Rattle.law_runs.proofs.Lemmas.Runs.{lists_go_inside}
use Rattle.law_steps.specs.Soundness.{LawsBelow}
use Rattle.law_nets.proofs.Fitting.{FitsBundle}
use Rattle.law_nets.proofs.Calls.{BurnsNoExcess, same_burns, no_excess_then}
use Rattle.law_nets.proofs.Stopping.{parked_burns, spilled_no_excess}
use Rattle.law_nets.proofs.Instructions.{finished_no_excess, halted_no_excess}
use Rattle.law_nets.proofs.Runs.{GoesWithoutExcess, fits_after, runs_without_excess, done_without_excess}

-- where a run that began with a part is
pub record StandsWell (p : ChainPart) (m : Machine) : Type 0 where
  pub fits : FitsBundle m
  pub steady : IsSteady m
  pub room : HasRoom (hold m) m.part
  pub no_excess : BurnsNoExcess p m.part

-- and if its next instruction is accepted
abbrev pub Accepts : ChainPart → Stage → Type 0
Accepts p (At part place x behind m) = refusal_of x m ≡ None → BurnsNoExcess p (xcm.done x m).part
Accepts p (Ended m) = ⊤

-- wherever the run comes
abbrev pub StandsAll : ChainPart → Stage → Type 0
StandsAll p g = (h : Stage) → Reaches xcm g h → StandsWell p (machine_of h) × Accepts p h

abandoned_no_excess : (p : ChainPart) (m : Machine) → BurnsNoExcess p m.part → BurnsNoExcess p (abandoned m.regs m.part)
abandoned_no_excess p m x = no_excess_then p m.part (abandoned m.regs m.part) x (same_burns m.part (abandoned m.regs m.part) (parked_burns m.part m.regs.holding))

performed : (p : ChainPart) (x : Instruction) (m now : Machine) (answer : Result (Unit {0}) XcmError) → BurnsNoExcess p m.part → (refusal_of x m ≡ None → BurnsNoExcess p (xcm.done x m).part) → Performed xcm x m answer now → BurnsNoExcess p now.part
performed p x m now (Ok u) so_far accepts h = subst (λ (z : Machine). BurnsNoExcess p z.part) (sym h.1) (accepts h.0)
performed p x m now (Err e) so_far accepts h = subst (λ (z : Machine). BurnsNoExcess p z.part) (sym h.1) so_far

pub stopped_no_excess : (p : ChainPart) (g : Stage) → StandsAll p g → (now : Machine) → StoppedIn xcm leaves_on_oom g now → BurnsNoExcess p now.part
stopped_no_excess p g all now s =
    let there = all (At s.part s.place s.which s.behind s.before) s.reached in
    ⊎_elim (λ (h : leaves_on_oom s.which s.before now). no_excess_then p s.before.part now.part there.0.no_excess (spilled_no_excess (out-Instruction s.which) s.before now there.0.fits h))
    (λ (d : (answer : Result (Unit {0}) XcmError) × Performed xcm s.which s.before answer now). performed p s.which s.before now d.0 there.0.no_excess there.1 d.1) s.halted

module _ (laws : LawsBelow) (n : List Table) (agrees : Agrees n) where
  pub end_no_excess : (p : ChainPart) (m : Machine) → StandsWell p m → BurnsNoExcess p (finished xcm m)
  end_no_excess p m s = no_excess_then p m.part (finished xcm m) s.no_excess (finished_no_excess laws.moves laws.trapping m s.steady s.room s.fits)

  -- where memory is refused to a run
  pub abandoned_in_no_excess : (rules : ChainRules) (origin : Location) (a : Admitted) (p : ChainPart) → StandsAll p (first_stage rules origin a p) → (now : ChainPart) → AbandonedIn rules origin a p now → BurnsNoExcess p now
  abandoned_in_no_excess rules origin a p all now h =
      let g = first_stage rules origin a p in ⊎_elim
      (λ (s : (stopped : Machine) × StoppedIn xcm leaves_on_oom (first_stage rules origin a p) stopped × (now ≡ abandoned stopped.regs stopped.part)).
      subst (BurnsNoExcess p) (sym s.2) (abandoned_no_excess p s.0 (stopped_no_excess p g all s.0 s.1)))
      (λ (e : HaltedAtEnd xcm leaves_on_oom (last_machine rules origin a p) now).
      let last = last_machine rules origin a p in
      let stands = (all (run xcm g) (still_to_run g, refl)).0 in
      no_excess_then p last.part now stands.no_excess (halted_no_excess laws.moves laws.trapping last stands.steady stands.room stands.fits now e)) h

  -- ---- for an origin of the chain's own
  accepts : (p : ChainPart) (h : Stage) → IsSafeAt n (machine_of h) → FitsBundle (machine_of h) → BurnsNoExcess p (machine_of h).part → IsAheadOf AreLists h → Accepts p h
  accepts p (At part place x behind m) safe fits so_far ahead = λ way. no_excess_then p m.part (xcm.done x m).part so_far (done_without_excess laws.withdraws laws.moves laws.stays n agrees x m ahead.ahead_hold.0 way safe fits)
  accepts p (Ended m) safe fits so_far ahead = tt

  pub stands_on : (p : ChainPart) (w : Weight) (g : Stage) → IsBalanced w g → IsAheadOf AreLists g → IsSafeAt n (machine_of g) → FitsBundle (machine_of g) → BurnsNoExcess p (machine_of g).part → StandsAll p g
  stands_on p w g balanced ahead safe fits so_far h reach =
      let goes : GoesWithoutExcess n (machine_of g) (machine_of h) = reached_keeps xcm laws.orderly AreLists lists_go_inside (GoesWithoutExcess n) (runs_without_excess laws.withdraws laws.moves laws.stays n agrees) w g h reach balanced ahead in
      let on = goes.0 safe in
      let fits_h = fits_after (machine_of g) (machine_of h) on.1 fits in
      let no_excess_h = no_excess_then p (machine_of g).part (machine_of h).part so_far (goes.1 safe fits) in (
        record { fits = fits_h; steady = on.0.steady; room = on.0.fine.room; no_excess = no_excess_h },
        accepts p h on.0 fits_h no_excess_h (reached_hold xcm laws.orderly AreLists lists_go_inside g h reach ahead),
      )
