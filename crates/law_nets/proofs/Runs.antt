-- Lemmas: a run for an origin of the chain's own burns no excess, wherever it comes, nor does its end. A reader may skip this file.
use Rattle.std.proofs.Common.{◌≡◌, None, List, refl, arith}
use Rattle.weight_trader.specs.Laws.{MovesAreKept}
use Rattle.xcm_program.specs.declared.instruction.Instruction.{Instruction, out-Instruction}
use Rattle.xcm_program.proofs.Lemmas.{everywhere_open}
use Rattle.exec_base.specs.Host.{told}
use Rattle.exec_rules.specs.Machine.{Machine}
use Rattle.exec_rules.specs.Keeping.{IsKeptByRuns}
use Rattle.exec_rules.specs.Instructions.{refusal_of, done, xcm}
use Rattle.law_coherence.specs.Networks.{Table, Agrees}
use Rattle.law_runs.specs.Calls.{Withdraws}
use Rattle.law_runs.specs.Safety.{HasList, AreLists, Safely}
use Rattle.law_runs.proofs.Lemmas.Shipping.{HasList-IsOfLayer}
use Rattle.law_runs.specs.Runs.{IsSafeAt, Goes, StaysSteady}
use Rattle.law_runs.proofs.Lemmas.Runs.{runs_go}
use Rattle.law_nets.proofs.Fitting.{just_unit, FitsBundle}
use Rattle.law_nets.proofs.Calls.{BurnsNoExcess, same_burns, no_excess_then, told_burns}
use Rattle.law_nets.proofs.Instructions.{done_no_excess}

-- a safe change keeps it so that all fits
pub fits_after : (m k : Machine) → Safely m k → FitsBundle m → FitsBundle k
fits_after m k x fits u = let le = x.units (just_unit u) in let fit = fits u in omega (arith, le, fit)

-- a run goes on safely, and burns no excess where all fits
abbrev pub GoesWithoutExcess : List Table → Machine → Machine → Type 0
GoesWithoutExcess n m k = Goes n m k × (IsSafeAt n m → FitsBundle m → BurnsNoExcess m.part k.part)

module _ (withdraws : Withdraws) (moves : MovesAreKept) (stays : StaysSteady) (n : List Table) (agrees : Agrees n) where
  abbrev go : IsKeptByRuns xcm AreLists (Goes n)
  go = runs_go withdraws moves stays n agrees

  then_without_excess : (a b c : Machine) → GoesWithoutExcess n a b → GoesWithoutExcess n b c → GoesWithoutExcess n a c
  then_without_excess a b c x y = (
    go.chained a b c x.0 y.0,
    λ safe fits. let one = x.0 safe in no_excess_then a.part b.part c.part (x.1 safe fits) (y.1 one.0 (fits_after a b one.1 fits)),
  )

  pub done_without_excess : (x : Instruction) (m : Machine) → AreLists x → refusal_of x m ≡ None → IsSafeAt n m → FitsBundle m → BurnsNoExcess m.part (xcm.done x m).part
  done_without_excess x m lists ok safe fits =
      let opened = everywhere_open HasList HasList-IsOfLayer x lists in
      done_no_excess withdraws moves n (out-Instruction x) m safe.fine safe.own_origin safe.steady safe.fees opened.0 opened.1 agrees fits ok

  pub runs_without_excess : IsKeptByRuns xcm AreLists (GoesWithoutExcess n)
  runs_without_excess = record {
    same = λ m. (go.same m, λ safe fits. same_burns m.part m.part refl);
    chained = then_without_excess;
    done = λ x m lists affordable ok. (go.done x m lists affordable ok, done_without_excess x m lists ok);
    told = λ e m. (go.told e m, λ safe fits. same_burns m.part (told m.part e) (told_burns m.part e));
    failed_at = λ place e behind m. (go.failed_at place e behind m, λ safe fits. same_burns m.part m.part refl);
    handler_taken = λ m. (go.handler_taken m, λ safe fits. same_burns m.part m.part refl);
    handler_given_up = λ m. (go.handler_given_up m, λ safe fits. same_burns m.part m.part refl);
    appendix_taken = λ m. (go.appendix_taken m, λ safe fits. same_burns m.part m.part refl);
  }
