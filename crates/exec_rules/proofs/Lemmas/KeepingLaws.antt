-- Lemmas that proofs cite, in this crate and above it: a relation that each step keeps, a run keeps. A reader of the contracts may skip this file.
use Rattle.std.proofs.Common.{◌≡◌, ⊎_elim, ℕ, zero, suc, ◌+◌, List, [], ◌∷◌, Option, Some, None, refl, sym, subst}
use Rattle.operands.specs.declared.error.XcmError.{XcmError}
use Rattle.operands.specs.declared.weight.Weight.{Weight}
use Rattle.xcm_program.specs.declared.instruction.Instruction.{Instruction, out-Instruction}
use Rattle.std.specs.List.{AllByRecursion}
use Rattle.xcm_program.specs.declared.instruction.Instruction.TheOpen.{Instruction-F}
use Rattle.xcm_program.specs.Everywhere.{AllInside}
use Rattle.xcm_program.specs.Weights.{kept}
use Rattle.exec_base.specs.declared.event.Part.{Part}
use Rattle.exec_base.specs.declared.event.Part.TheVariants.{Appendix}
use Rattle.exec_rules.specs.Machine.{Machine, Rules, Control, control_of, Steers, IsOrderly}
use Rattle.exec_rules.specs.Run.{Stage, At, Ended, begin, to_appendix, to_handler, go_on, failed, without_appendix, handler_dropped, traced, by_answer, next, steps, machine_of, Reaches}
use Rattle.exec_rules.specs.Accounts.{Balances, IsBalanced}
use Rattle.exec_rules.specs.Keeping.{IsKeptByRuns, AllAhead, IsAheadOf, GoesInside}
use Rattle.exec_rules.proofs.Lemmas.BalanceLaws.{affordable}
use Rattle.exec_rules.proofs.Lemmas.RunLaws.{next_balanced}

pub begin_machine : (part : Part) (p : List Instruction) (m : Machine) → machine_of (begin part p m) ≡ m
begin_machine part [] m = refl
begin_machine part (x ∷ behind) m = refl

-- ---- a fact of every instruction that may still run

abbrev itself : List Instruction → List Instruction
itself p = p

module _ (Q : Instruction → Type 0) where
  same_hold : (behind : List Instruction) (c d : Control) → d ≡ c → AllAhead Q behind c → AllAhead Q behind d
  same_hold behind c d e h = subst (AllAhead Q behind) (sym e) h

  ran_hold : (l : Instruction-F Instruction) (behind : List Instruction) (c d : Control) → Steers itself l c d → AllInside Q (kept l) → AllAhead Q behind c → AllAhead Q behind d
  ran_hold (Instruction-F.SetErrorHandler xcm) behind c d e i h = subst (AllAhead Q behind) (sym e) (record { ahead_hold = h.ahead_hold; handler_holds = i; appendix_holds = h.appendix_holds })
  ran_hold (Instruction-F.SetAppendix xcm) behind c d e i h = subst (AllAhead Q behind) (sym e) (record { ahead_hold = h.ahead_hold; handler_holds = h.handler_holds; appendix_holds = i })
  ran_hold Instruction-F.RefundSurplus behind c d e i h = ⊎_elim (λ f. same_hold behind c d f h) (λ f. subst (AllAhead Q behind) (sym f) (record { ahead_hold = h.ahead_hold; handler_holds = h.handler_holds; appendix_holds = h.appendix_holds })) e
  ran_hold (Instruction-F.Transact kind most call) behind c d e i h = subst (AllAhead Q behind) (sym e.2) (record { ahead_hold = h.ahead_hold; handler_holds = h.handler_holds; appendix_holds = h.appendix_holds })
  ran_hold _ behind c d e i h = same_hold behind c d e h

  begin_hold : (part : Part) (p : List Instruction) (m : Machine) → AllAhead Q p (control_of m.regs) → IsAheadOf Q (begin part p m)
  begin_hold part [] m h = h
  begin_hold part (x ∷ behind) m h = h

  to_appendix_hold : (ahead : List Instruction) (m : Machine) → AllAhead Q ahead (control_of m.regs) → IsAheadOf Q (to_appendix m)
  to_appendix_hold ahead m h = begin_hold Appendix m.regs.appendix (record m { regs = without_appendix m.regs }) (record { ahead_hold = h.appendix_holds; handler_holds = h.handler_holds; appendix_holds = tt })

  to_handler_hold : (ahead handler : List Instruction) (m : Machine) → m.regs.handler ≡ handler → AllAhead Q ahead (control_of m.regs) → IsAheadOf Q (to_handler handler m)
  to_handler_hold ahead [] m e h = to_appendix_hold ahead m h
  to_handler_hold ahead (x ∷ behind) m e h = record { ahead_hold = subst (AllByRecursion Q) e h.handler_holds; handler_holds = tt; appendix_holds = h.appendix_holds }

  go_on_hold : (part : Part) (place : ℕ) (behind : List Instruction) (m : Machine) → AllAhead Q behind (control_of m.regs) → IsAheadOf Q (go_on part place behind m)
  go_on_hold part place [] m h = to_appendix_hold [] (record m { regs = handler_dropped m.regs }) (record { ahead_hold = tt; handler_holds = tt; appendix_holds = h.appendix_holds })
  go_on_hold part place (x ∷ behind) m h = h

module _ (rules : Rules) (orderly : IsOrderly rules) (Q : Instruction → Type 0) (inside : GoesInside Q) where
  by_answer_hold : (part : Part) (place : ℕ) (x : Instruction) (behind : List Instruction) (m : Machine) (o : Option XcmError) → rules.refusal_of x m ≡ o → AllAhead Q (x ∷ behind) (control_of m.regs) → IsAheadOf Q (by_answer rules part place x behind m o)
  by_answer_hold part place x behind m None e h =
      go_on_hold Q part (place + 1) behind (traced part place x None (rules.done x m))
      (ran_hold Q (out-Instruction x) behind _ _ (orderly x m e) (inside x h.ahead_hold.0) (record { ahead_hold = h.ahead_hold.1; handler_holds = h.handler_holds; appendix_holds = h.appendix_holds }))
  by_answer_hold part place x behind m (Some error) e h =
      to_handler_hold Q (x ∷ behind) m.regs.handler (record (traced part place x (Some error) m) { regs = failed place error behind m.regs }) refl
      (record { ahead_hold = h.ahead_hold; handler_holds = h.handler_holds; appendix_holds = h.appendix_holds })

  pub next_hold : (g : Stage) → IsAheadOf Q g → IsAheadOf Q (next rules g)
  next_hold (At part place x behind m) h = by_answer_hold part place x behind m (rules.refusal_of x m) refl h
  next_hold (Ended m) h = h

  pub steps_hold : (n : ℕ) (g : Stage) → IsAheadOf Q g → IsAheadOf Q (steps rules n g)
  unfolding steps
  steps_hold zero g h = h
  steps_hold (suc n) g h = steps_hold n (next rules g) (next_hold g h)

  -- whatever a run reaches
  pub reached_hold : (g h : Stage) → Reaches rules g h → IsAheadOf Q g → IsAheadOf Q h
  reached_hold g h r q = subst (IsAheadOf Q) r.1 (steps_hold r.0 g q)

-- ---- a relation

module _ (rules : Rules) (orderly : IsOrderly rules) (Q : Instruction → Type 0) (inside : GoesInside Q) (R : Machine → Machine → Type 0) (k : IsKeptByRuns rules Q R) where
  to_appendix_keeps : (m : Machine) → R m (machine_of (to_appendix m))
  to_appendix_keeps m = subst (R m) (sym (begin_machine Appendix m.regs.appendix (record m { regs = without_appendix m.regs }))) (k.appendix_taken m)

  to_handler_keeps : (h : List Instruction) (m : Machine) → R m (machine_of (to_handler h m))
  to_handler_keeps [] m = to_appendix_keeps m
  to_handler_keeps (x ∷ behind) m = k.handler_taken m

  go_on_keeps : (part : Part) (place : ℕ) (behind : List Instruction) (m : Machine) → R m (machine_of (go_on part place behind m))
  go_on_keeps part place [] m = k.chained _ _ _ (k.handler_given_up m) (to_appendix_keeps (record m { regs = handler_dropped m.regs }))
  go_on_keeps part place (x ∷ behind) m = k.same m

  by_answer_keeps : (most : Weight) (part : Part) (place : ℕ) (x : Instruction) (behind : List Instruction) (m : Machine) (o : Option XcmError) → rules.refusal_of x m ≡ o → Q x → Balances most (x ∷ behind) (control_of m.regs)
      → R m (machine_of (by_answer rules part place x behind m o))
  by_answer_keeps most part place x behind m None e q b =
      k.chained m (rules.done x m) _ (k.done x m q (affordable most x behind m.regs b) e)
      (k.chained (rules.done x m) (traced part place x None (rules.done x m)) _ (k.told _ (rules.done x m)) (go_on_keeps part (place + 1) behind (traced part place x None (rules.done x m))))
  by_answer_keeps most part place x behind m (Some error) e q b =
      let t = traced part place x (Some error) m in
      k.chained m t _ (k.told _ m) (k.chained t (record t { regs = failed place error behind t.regs }) _ (k.failed_at place error behind t) (to_handler_keeps m.regs.handler (record t { regs = failed place error behind t.regs })))

  next_keeps : (most : Weight) (g : Stage) → IsBalanced most g → IsAheadOf Q g → R (machine_of g) (machine_of (next rules g))
  next_keeps most (At part place x behind m) b h = by_answer_keeps most part place x behind m (rules.refusal_of x m) refl h.ahead_hold.0 b
  next_keeps most (Ended m) b h = k.same m

  pub steps_keep : (most : Weight) (n : ℕ) (g : Stage) → IsBalanced most g → IsAheadOf Q g → R (machine_of g) (machine_of (steps rules n g))
  unfolding steps
  steps_keep most zero g b h = k.same (machine_of g)
  steps_keep most (suc n) g b h = k.chained (machine_of g) (machine_of (next rules g)) _ (next_keeps most g b h) (steps_keep most n (next rules g) (next_balanced rules orderly most g b) (next_hold rules orderly Q inside g h))

  -- whatever a run reaches
  pub reached_keeps : (most : Weight) (g h : Stage) → Reaches rules g h → IsBalanced most g → IsAheadOf Q g → R (machine_of g) (machine_of h)
  reached_keeps most g h r b q = subst (λ (h : Stage). R (machine_of g) (machine_of h)) r.1 (steps_keep most r.0 g b q)
