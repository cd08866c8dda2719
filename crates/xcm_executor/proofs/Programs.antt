-- A run, as far as its programs were taken.
use Rattle.std.proofs.Common.{◌≡◌, ℕ, zero, suc, ◌+◌, ◌<◌, ◌≤◌, List, [], ◌∷◌, length, ap, subst, arith}
use Rattle.xcm_program.specs.declared.instruction.Instruction.{Instruction}
use Rattle.xcm_program.specs.Measure.{deep_count}
use Rattle.exec_base.specs.declared.event.Part.{Part}
use Rattle.exec_rules.specs.Machine.{Machine, IsOrderly}
use Rattle.exec_rules.specs.Run.{Stage, At, Ended, begin, next, steps, still_to_run, IsUnderWay, run, Reaches, GoesOnTo, StoppedIn}
use Rattle.exec_rules.proofs.Lemmas.RunLaws.{begin_balanced, begin_left, next_left, reached_balanced, reaches_then, run_reached}
use Rattle.exec_rules.specs.Instructions.{xcm}
use Rattle.exec_rules.specs.Stopping.{leaves_on_oom}
use Rattle.xcm_executor.specs.Running.{IsReadyToRun}
use Rattle.xcm_executor.proofs.Standing.{balanced_begin}

pub reached_more : (start mid last : Stage) → Reaches xcm start mid → GoesOnTo xcm mid last → Reaches xcm start last
reached_more start mid last a b = reaches_then xcm start mid last a (suc b.0, b.1)

pub reached_stopped : (start mid : Stage) (now : Machine) → Reaches xcm start mid → StoppedIn xcm leaves_on_oom mid now → StoppedIn xcm leaves_on_oom start now
reached_stopped start mid now a b = record { part = b.part; place = b.place; which = b.which; behind = b.behind; before = b.before; reached = reaches_then xcm start mid _ a b.reached; halted = b.halted }

module _ (orderly : IsOrderly xcm) where
  pub reached_runnable : (first part : Part) (p q : List Instruction) (m n : Machine) → Reaches xcm (begin first p m) (begin part q n) → IsReadyToRun first p m → IsReadyToRun part q n
  reached_runnable first part p q m n r a = record {
    accounted = (a.accounted.0, balanced_begin a.accounted.0 part q n (reached_balanced xcm orderly a.accounted.0 _ _ r (begin_balanced a.accounted.0 first p m a.accounted.1)));
    ready = λ next_part place x behind k s. a.ready next_part place x behind k (reaches_then xcm (begin first p m) (begin part q n) (At next_part place x behind k) r s);
  }

  next_at_most : (g : Stage) → still_to_run (next xcm g) ≤ still_to_run g
  next_at_most (At part place x behind m) = let h = next_left xcm orderly (At part place x behind m) tt in omega (arith, h)
  next_at_most (Ended m) = omega arith

  steps_at_most : (n : ℕ) (g : Stage) → still_to_run (steps xcm n g) ≤ still_to_run g
  unfolding steps
  steps_at_most zero g = omega arith
  steps_at_most (suc n) g = let a = next_at_most g in let b = steps_at_most n (next xcm g) in omega (arith, a, b)

  steps_less : (n : ℕ) (g : Stage) → IsUnderWay g → still_to_run (steps xcm (suc n) g) < still_to_run g
  unfolding steps
  steps_less n g h = let a = next_left xcm orderly g h in let b = steps_at_most n (next xcm g) in omega (arith, a, b)

  begin_under_way : (part : Part) (p : List Instruction) (m : Machine) → 0 < length p → IsUnderWay (begin part p m)
  begin_under_way part [] m lt = absurd (omega (arith, lt))
  begin_under_way part (x ∷ behind) m lt = tt

  pub less_is_left : (part next_part : Part) (p q : List Instruction) (m n : Machine) → 0 < length p → GoesOnTo xcm (begin part p m) (begin next_part q n)
      → deep_count q + deep_count n.regs.handler + deep_count n.regs.appendix < deep_count p + deep_count m.regs.handler + deep_count m.regs.appendix
  less_is_left part next_part p q m n lt a =
      let l = steps_less a.0 (begin part p m) (begin_under_way part p m lt) in
      let e = ap still_to_run a.1 in
      let b = begin_left part p m in
      let c = begin_left next_part q n in
      omega (arith, l, e, b, c)

  pub reached_end : (start : Stage) (part : Part) (p : List Instruction) (m : Machine) → p ≡ [] → Reaches xcm start (begin part p m) → run xcm start ≡ Ended m
  reached_end start part p m e r = run_reached xcm orderly start m (subst (λ (q : List Instruction). Reaches xcm start (begin part q m)) e r)
