-- Lemmas that proofs cite, in this crate and above it: a run, an instruction at a time. A reader of the contracts may skip this file.
use Rattle.std.proofs.Common.{◌≡◌, ℕ, zero, suc, ◌+◌, ◌≤◌, List, [], ◌∷◌, Option, Some, None, refl, sym, ap, ◌∙◌, subst, arith}
use Rattle.operands.specs.declared.error.XcmError.{XcmError}
use Rattle.operands.specs.declared.weight.Weight.{Weight}
use Rattle.xcm_program.specs.declared.instruction.Instruction.{Instruction, out-Instruction}
use Rattle.xcm_program.specs.Measure.{deep_count_one, deep_count}
use Rattle.exec_base.specs.declared.event.Part.{Part}
use Rattle.exec_base.specs.declared.event.Part.TheVariants.{Appendix}
use Rattle.exec_base.specs.declared.registers.Registers.{Registers}
use Rattle.exec_rules.specs.Machine.{Machine, Rules, control_of, IsOrderly}
use Rattle.exec_rules.specs.Run.{Stage, At, Ended, begin, to_appendix, to_handler, go_on, failed, without_handler, without_appendix, handler_dropped, traced, by_answer, next, steps, still_to_run, machine_of, IsUnderWay, IsEnd, run, Reaches}
use Rattle.exec_rules.specs.Accounts.{Balances, IsBalanced, KeepsAccounts}
use Rattle.xcm_program.proofs.Lemmas.{deep_count_one-kept}
use Rattle.exec_rules.proofs.Lemmas.BalanceLaws.{counts, ran_balances, failed_balances, handler_balances, dropped_balances, appendix_balances}

-- ---- the balance, wherever the run goes
pub begin_balanced : (most : Weight) (part : Part) (p : List Instruction) (m : Machine) → Balances most p (control_of m.regs) → IsBalanced most (begin part p m)
begin_balanced most part [] m b = b
begin_balanced most part (x ∷ behind) m b = b

to_appendix_balanced : (most : Weight) (m : Machine) → Balances most [] (control_of m.regs) → IsBalanced most (to_appendix m)
to_appendix_balanced most m b = begin_balanced most Appendix m.regs.appendix (record m { regs = without_appendix m.regs }) (appendix_balances most (control_of m.regs) b)

to_handler_balanced : (most : Weight) (h : List Instruction) (m : Machine) → m.regs.handler ≡ h → Balances most [] (control_of m.regs) → IsBalanced most (to_handler h m)
to_handler_balanced most [] m e b = to_appendix_balanced most m b
to_handler_balanced most (x ∷ behind) m e b = subst (λ (p : List Instruction). Balances most p (control_of (without_handler m.regs))) e (handler_balances most (control_of m.regs) b)

pub go_on_balanced : (most : Weight) (part : Part) (place : ℕ) (behind : List Instruction) (m : Machine) → Balances most behind (control_of m.regs) → IsBalanced most (go_on part place behind m)
go_on_balanced most part place [] m b = to_appendix_balanced most (record m { regs = handler_dropped m.regs }) (dropped_balances most (control_of m.regs) b)
go_on_balanced most part place (x ∷ behind) m b = b

-- ---- how much may still run
abbrev pub kept_in : Machine → ℕ
kept_in m = deep_count m.regs.handler + deep_count m.regs.appendix

pub begin_left : (part : Part) (p : List Instruction) (m : Machine) → still_to_run (begin part p m) ≡ deep_count p + deep_count m.regs.handler + deep_count m.regs.appendix
begin_left part [] m = omega arith
begin_left part (x ∷ behind) m = refl

to_appendix_left : (m : Machine) → still_to_run (to_appendix m) ≤ kept_in m
to_appendix_left m = let e = begin_left Appendix m.regs.appendix (record m { regs = without_appendix m.regs }) in omega (arith, e)

to_handler_left : (h : List Instruction) (m : Machine) → m.regs.handler ≡ h → still_to_run (to_handler h m) ≤ kept_in m
to_handler_left [] m e = to_appendix_left m
to_handler_left (x ∷ behind) m e = let c = ap deep_count e in omega (arith, c)

pub go_on_left : (part : Part) (place : ℕ) (behind : List Instruction) (m : Machine) → still_to_run (go_on part place behind m) ≤ deep_count behind + kept_in m
go_on_left part place [] m = let e = to_appendix_left (record m { regs = handler_dropped m.regs }) in omega (arith, e)
go_on_left part place (x ∷ behind) m = omega arith

module _ (rules : Rules) (orderly : IsOrderly rules) where
  by_answer_balanced : (most : Weight) (part : Part) (place : ℕ) (x : Instruction) (behind : List Instruction) (m : Machine) (o : Option XcmError) → rules.refusal_of x m ≡ o → Balances most (x ∷ behind) (control_of m.regs)
      → IsBalanced most (by_answer rules part place x behind m o)
  by_answer_balanced most part place x behind m None e b = go_on_balanced most part (place + 1) behind (traced part place x None (rules.done x m)) (ran_balances most x behind _ _ (orderly x m e) b)
  by_answer_balanced most part place x behind m (Some error) e b =
      to_handler_balanced most m.regs.handler (record (traced part place x (Some error) m) { regs = failed place error behind m.regs }) refl (failed_balances most x behind (control_of m.regs) b)

  pub next_balanced : (most : Weight) (g : Stage) → IsBalanced most g → IsBalanced most (next rules g)
  next_balanced most (At part place x behind m) b = by_answer_balanced most part place x behind m (rules.refusal_of x m) refl b
  next_balanced most (Ended m) b = b

  pub steps_balanced : (most : Weight) (n : ℕ) (g : Stage) → IsBalanced most g → IsBalanced most (steps rules n g)
  unfolding steps
  steps_balanced most zero g b = b
  steps_balanced most (suc n) g b = steps_balanced most n (next rules g) (next_balanced most g b)

  pub reached_balanced : (most : Weight) (g h : Stage) → Reaches rules g h → IsBalanced most g → IsBalanced most h
  reached_balanced most g h r b = subst (IsBalanced most) r.1 (steps_balanced most r.0 g b)

  by_answer_left : (part : Part) (place : ℕ) (x : Instruction) (behind : List Instruction) (m : Machine) (o : Option XcmError) → rules.refusal_of x m ≡ o
      → 1 + still_to_run (by_answer rules part place x behind m o) ≤ deep_count (x ∷ behind) + kept_in m
  by_answer_left part place x behind m None e =
      let g = go_on_left part (place + 1) behind (traced part place x None (rules.done x m)) in
      let c = counts deep_count_one (out-Instruction x) (deep_count_one x) (deep_count behind) (control_of m.regs) (control_of (rules.done x m).regs) (deep_count_one-kept x) (orderly x m e) in
      omega (arith, g, c)
  by_answer_left part place x behind m (Some error) e =
      let g = to_handler_left m.regs.handler (record (traced part place x (Some error) m) { regs = failed place error behind m.regs }) refl in
      let c = deep_count_one-kept x in
      omega (arith, g, c)

  -- each instruction is taken at most once
  pub next_left : (g : Stage) → IsUnderWay g → 1 + still_to_run (next rules g) ≤ still_to_run g
  next_left (At part place x behind m) h = let a = by_answer_left part place x behind m (rules.refusal_of x m) refl in omega (arith, a)
  next_left (Ended m) h = absurd h

module _ (rules : Rules) where
  pub steps_plus : (n k : ℕ) (g : Stage) → steps rules (n + k) g ≡ steps rules k (steps rules n g)
  unfolding steps
  steps_plus zero k g = let e : 0 + k ≡ k = omega arith in ap (λ (j : ℕ). steps rules j g) e
  steps_plus (suc n) k g = let e : suc n + k ≡ suc (n + k) = omega arith in ap (λ (j : ℕ). steps rules j g) e ∙ steps_plus n k (next rules g)

  pub steps_end : (n : ℕ) (e : Stage) → IsEnd e → steps rules n e ≡ e
  unfolding steps
  steps_end zero e h = refl
  steps_end (suc n) (At part place x behind m) h = absurd h
  steps_end (suc n) (Ended m) h = steps_end n (Ended m) h

  pub reaches_here : (g : Stage) → Reaches rules g g
  unfolding steps
  reaches_here g = (0, refl)

  pub reaches_then : (g h k : Stage) → Reaches rules g h → Reaches rules h k → Reaches rules g k
  reaches_then g h k a b = (a.0 + b.0, steps_plus a.0 b.0 g ∙ ap (steps rules b.0) a.1 ∙ b.1)

  pub one_step : (h : Stage) → steps rules 1 h ≡ next rules h
  unfolding steps
  one_step h = refl

  pub reaches_next : (g h : Stage) → Reaches rules g h → Reaches rules g (next rules h)
  reaches_next g h a = (a.0 + 1, steps_plus a.0 1 g ∙ ap (steps rules 1) a.1 ∙ one_step h)

module _ (rules : Rules) (orderly : IsOrderly rules) where
  at_least_one : (x : Instruction) → 1 ≤ deep_count_one x
  at_least_one x = let c = deep_count_one-kept x in omega (arith, c)

  -- as many instructions as may run end it
  pub enough : (n : ℕ) (g : Stage) → still_to_run g ≤ n → IsEnd (steps rules n g)
  unfolding steps
  enough zero (At part place x behind m) le = absurd (let c = at_least_one x in omega (arith, c, le))
  enough zero (Ended m) le = tt
  enough (suc n) (At part place x behind m) le = let d = next_left rules orderly (At part place x behind m) tt in enough n (next rules (At part place x behind m)) (omega (arith, d, le))
  enough (suc n) (Ended m) le = subst IsEnd (sym (steps_end rules n (Ended m) tt)) tt

  pub run_ends : (g : Stage) → IsEnd (run rules g)
  run_ends g = enough (still_to_run g) g (omega arith)

  -- the end that is reached is the run's
  pub run_reached : (g : Stage) (m : Machine) → Reaches rules g (Ended m) → run rules g ≡ Ended m
  run_reached g m r =
      let n = still_to_run g in
      let e : n + r.0 ≡ r.0 + n = omega arith in
      sym (steps_end rules r.0 (run rules g) (run_ends g))
      ∙ sym (steps_plus rules n r.0 g)
      ∙ ap (λ (j : ℕ). steps rules j g) e
      ∙ steps_plus rules r.0 n g
      ∙ ap (steps rules n) r.1
      ∙ steps_end rules n (Ended m) tt

  -- a run from what it reaches is the same run
  pub run_from : (g h : Stage) → Reaches rules g h → run rules g ≡ run rules h
  run_from g h r = elim (run rules h) as (λ k. run rules h ≡ k → IsEnd k → run rules g ≡ k) [
    | At part place x behind m ↦ λ e i. absurd i
    | Ended m ↦ λ e i. run_reached g m (reaches_then rules g h (Ended m) r (still_to_run h, e))
  ] refl (run_ends h)

accounts_of_balance : (most : Weight) (ahead : List Instruction) (r : Registers) → Balances most ahead (control_of r) → KeepsAccounts most r
accounts_of_balance most ahead r b = record {
  surplus = record { ref_time = omega (arith, b.in_time.within); proof_size = omega (arith, b.in_size.within) };
  refunded = record { ref_time = b.in_time.refunded; proof_size = b.in_size.refunded };
}

pub balanced_accounts : (most : Weight) (g : Stage) → IsBalanced most g → KeepsAccounts most (machine_of g).regs
balanced_accounts most (At part place x behind m) b = accounts_of_balance most (x ∷ behind) m.regs b
balanced_accounts most (Ended m) b = accounts_of_balance most [] m.regs b
