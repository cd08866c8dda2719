-- A program, as far as its instructions were taken.
use Rattle.std.proofs.Common.{◌≡◌, ℕ, zero, suc, ◌+◌, ◌<◌, ◌≤◌, ◌^◌, List, [], ◌∷◌, length, true, Option, Some, None, refl, sym, ap, ◌∙◌, subst, arith}
use Rattle.std.specs.Prelude.{nat_lt}
use Rattle.operands.specs.declared.error.XcmError.{XcmError}
use Rattle.operands.specs.declared.weight.Weight.{Weight}
use Rattle.weight_trader.specs.Sums.{weight_sum}
use Rattle.xcm_program.specs.declared.instruction.Instruction.{Instruction}
use Rattle.xcm_program.specs.Measure.{deep_count_one, deep_count}
use Rattle.xcm_program.proofs.Lemmas.{deep_count_one-kept}
use Rattle.exec_base.specs.declared.event.Part.{Part}
use Rattle.exec_base.specs.declared.event.Part.TheVariants.{Appendix}
use Rattle.exec_base.specs.declared.registers.Registers.{Registers}
use Rattle.exec_rules.specs.Machine.{Machine, machine, control_of, IsOrderly}
use Rattle.exec_rules.specs.Run.{Stage, At, begin, to_appendix, to_handler, go_on, failed_with, appendix_of, next_program, without_appendix, handler_dropped, traced, left_after, by_answer, steps, is_accepted, begins_well, IsTaken, Halted, GoesOnTo, StoppedIn}
use Rattle.exec_rules.specs.Accounts.{Balances, IsBalanced, IsWeightAccounted}
use Rattle.exec_rules.proofs.Lemmas.BalanceLaws.{failed_balances}
use Rattle.exec_rules.proofs.Lemmas.RunLaws.{begin_balanced, steps_balanced, steps_plus, one_step}
use Rattle.exec_rules.specs.Instructions.{xcm}
use Rattle.exec_rules.specs.Readiness.{IsReady}
use Rattle.exec_rules.specs.Stopping.{leaves_on_oom}
use Rattle.xcm_executor.specs.Running.{IsReadyThroughout}
use Rattle.xcm_executor.proofs.Lemmas.Running.{IsWeighable}
use Rattle.plain_lists.proofs.Lemmas.Facts.{zero_below as positive}

-- after so many instructions these are left
pub record Stands (start : Stage) (part : Part) (place : ℕ) (behind : List Instruction) (m : Machine) : Type 0 where
  pub goes : steps xcm place start ≡ go_on part place behind m

pub balanced_begin : (most : Weight) (part : Part) (p : List Instruction) (m : Machine) → IsBalanced most (begin part p m) → Balances most p (control_of m.regs)
balanced_begin most part [] m b = b
balanced_begin most part (x ∷ behind) m b = b

begin_go_on : (part : Part) (p : List Instruction) (m : Machine) → 0 < length p → begin part p m ≡ go_on part 0 p m
begin_go_on part [] m lt = absurd (omega (arith, lt))
begin_go_on part (x ∷ behind) m lt = refl

pub nil : (p : List Instruction) → length p ≡ 0 → p ≡ []
nil [] e = refl
nil (x ∷ p) e = absurd (omega (arith, e))

some_count : (p : List Instruction) → length p ≤ deep_count p
some_count [] = omega arith
some_count (x ∷ p) = let a = some_count p in let c = at_least x in omega (arith, a, c)
  where
    at_least : (x : Instruction) → 1 ≤ deep_count_one x
    at_least x = let c = deep_count_one-kept x in omega (arith, c)

pub accounted : (part : Part) (p : List Instruction) (m : Machine) (a : IsWeightAccounted p m.regs) → IsBalanced a.0 (begin part p m)
accounted part p m a = begin_balanced a.0 part p m a.1

pub place_fits : (place : ℕ) (p : List Instruction) (r : Registers) → IsWeightAccounted p r → place < length p → place < 2 ^ 32
place_fits place p r a inside = let f = some_count p in omega (arith, a.1.few, f, inside)

-- the first instruction of a program
module _ (part : Part) (m₀ m : Machine) (items : List Instruction) (x : Instruction) (behind : List Instruction) (is : items ≡ x ∷ behind) where
  first_at : (p : List Instruction) → 0 < length p → Stands (begin part p m₀) part 0 items m → begins_well xcm p m₀ ≡ is_accepted (xcm.refusal_of x m)
  unfolding steps
  first_at [] lt at = absurd (omega (arith, lt))
  first_at (y ∷ ys) lt at =
      let e : At part 0 y ys m₀ ≡ At part 0 x behind m = at.goes ∙ ap (λ (q : List Instruction). go_on part 0 q m) is in
      let a : y ≡ x = cc in
      let b : m₀ ≡ m = cc in
      ap (λ (z : Instruction). is_accepted (xcm.refusal_of z m₀)) a ∙ ap (λ (n : Machine). is_accepted (xcm.refusal_of x n)) b

  pub began_more : (place : ℕ) (p : List Instruction) → 0 < length p → Stands (begin part p m₀) part place items m → (0 < place → begins_well xcm p m₀ ≡ true)
      → (o : Option XcmError) (now : Machine) → o ≡ None → IsTaken xcm part place x m o now → begins_well xcm p m₀ ≡ true
  began_more zero p lt at h o now e t = first_at p lt at ∙ ap is_accepted (t.0 ∙ e)
  began_more (suc n) p lt at h o now e t = h (omega arith)

  pub failed_began : (place : ℕ) (p : List Instruction) → 0 < length p → Stands (begin part p m₀) part place items m → (0 < place → begins_well xcm p m₀ ≡ true)
      → (o : Option XcmError) (now : Machine) (error : XcmError) → o ≡ Some error → IsTaken xcm part place x m o now → nat_lt 0 place ≡ begins_well xcm p m₀
  failed_began zero p lt at h o now error e t = sym (first_at p lt at ∙ ap is_accepted (t.0 ∙ e))
  failed_began (suc n) p lt at h o now error e t = positive n ∙ sym (h (omega arith))

pub stands_init : (part : Part) (p items : List Instruction) (m : Machine) → items ≡ p → 0 < length p → Stands (begin part p m) part 0 items m
unfolding steps
stands_init part p items m e lt = record { goes = begin_go_on part p m lt ∙ ap (λ (q : List Instruction). go_on part 0 q m) (sym e) }

module _ (start : Stage) (part : Part) (place : ℕ) (items : List Instruction) (x : Instruction) (behind : List Instruction) (m : Machine) (at : Stands start part place items m) (is : items ≡ x ∷ behind) where
  here : steps xcm place start ≡ At part place x behind m
  here = at.goes ∙ ap (λ (q : List Instruction). go_on part place q m) is

  one_more : steps xcm (place + 1) start ≡ by_answer xcm part place x behind m (xcm.refusal_of x m)
  one_more = steps_plus xcm place 1 start ∙ ap (steps xcm 1) here ∙ one_step xcm (At part place x behind m)

  balance : IsOrderly xcm → (most : Weight) → IsBalanced most start → Balances most (x ∷ behind) (control_of m.regs)
  balance orderly most b = subst (IsBalanced most) here (steps_balanced xcm orderly most place start b)

  pub stands_ready : IsReadyThroughout start → IsReady x m
  stands_ready ready = ready part place x behind m (place, here)

  pub stands_stopped : (now : Machine) → Halted xcm leaves_on_oom x m now → StoppedIn xcm leaves_on_oom start now
  stands_stopped now h = record { part = part; place = place; which = x; behind = behind; before = m; reached = (place, here); halted = h }

  -- it was done
  pub stands_more : (o : Option XcmError) (now : Machine) → o ≡ None → IsTaken xcm part place x m o now → Stands start part (place + 1) behind now
  stands_more o now e t = record {
    goes = one_more ∙ ap (by_answer xcm part place x behind m) (t.0 ∙ e)
        ∙ ap (go_on part (place + 1) behind) (sym (t.1 ∙ ap (λ (r : Option XcmError). traced part place x r (left_after xcm x m r)) e));
  }

  -- it failed
  module _ (o : Option XcmError) (now : Machine) (error : XcmError) (e : o ≡ Some error) (t : IsTaken xcm part place x m o now) where
    is_told : now ≡ traced part place x (Some error) m
    is_told = t.1 ∙ ap (λ (r : Option XcmError). traced part place x r (left_after xcm x m r)) e

    regs : now.regs ≡ m.regs
    regs = ap (λ (n : Machine). n.regs) is_told

    pub failed_weighable : IsOrderly xcm → (most : Weight) → IsBalanced most start → IsWeighable now.regs.rule behind
    failed_weighable orderly most b =
        let f = balance orderly most b in
        subst (λ (r : Registers). IsWeighable r.rule behind) (sym regs)
        (record { few = omega (arith, f.few); short = omega (arith, f.in_time.within, f.short); small = omega (arith, f.in_size.within, f.small) })

    pub failed_short : IsOrderly xcm → (most : Weight) → IsBalanced most start → (unused : Weight) → unused ≡ weight_sum now.regs.rule behind → now.regs.surplus.ref_time + unused.ref_time < 2 ^ 64
    failed_short orderly most b unused u =
        let f = failed_balances most x behind (control_of m.regs) (balance orderly most b) in
        subst (λ (w : Weight). now.regs.surplus.ref_time + w.ref_time < 2 ^ 64) (sym u)
        (subst (λ (r : Registers). r.surplus.ref_time + (weight_sum r.rule behind).ref_time < 2 ^ 64) (sym regs) (omega (arith, f.in_time.within, f.short)))

    pub failed_small : IsOrderly xcm → (most : Weight) → IsBalanced most start → (unused : Weight) → unused ≡ weight_sum now.regs.rule behind → now.regs.surplus.proof_size + unused.proof_size < 2 ^ 64
    failed_small orderly most b unused u =
        let f = failed_balances most x behind (control_of m.regs) (balance orderly most b) in
        subst (λ (w : Weight). now.regs.surplus.proof_size + w.proof_size < 2 ^ 64) (sym u)
        (subst (λ (r : Registers). r.surplus.proof_size + (weight_sum r.rule behind).proof_size < 2 ^ 64) (sym regs) (omega (arith, f.in_size.within, f.small)))

    pub failed_goes_on : (unused : Weight) → unused ≡ weight_sum now.regs.rule behind → (next_part : Part) (next_instructions : List Instruction) (last : Registers)
        → (let z : Part × List Instruction × Registers = (next_part, next_instructions, last) in z) ≡ next_program now.regs.handler (failed_with place error unused now.regs)
        → GoesOnTo xcm start (begin next_part next_instructions (machine last now.part))
    failed_goes_on unused u next_part next_instructions last c =
        let one : suc place ≡ place + 1 = omega arith in
        let f = λ (z : Part × List Instruction × Registers). begin z.0 z.1 (machine z.2 now.part) in (
          place,
          ap (λ (j : ℕ). steps xcm j start) one ∙ one_more ∙ ap (by_answer xcm part place x behind m) (t.0 ∙ e)
              ∙ ap (λ (n : Machine). to_handler n.regs.handler (machine (failed_with place error (weight_sum n.regs.rule behind) n.regs) n.part)) (sym is_told)
              ∙ ap (λ (w : Weight). to_handler now.regs.handler (machine (failed_with place error w now.regs) now.part)) (sym u)
              ∙ ap f (sym c),
        )

-- none is left
module _ (start : Stage) (part : Part) (place : ℕ) (items : List Instruction) (m : Machine) (at : Stands start part place items m) (is : items ≡ []) where
  over : steps xcm place start ≡ to_appendix (record m { regs = handler_dropped m.regs })
  over = at.goes ∙ ap (λ (q : List Instruction). go_on part place q m) is

  from_place : (n : ℕ) → 0 < n → steps xcm n start ≡ to_appendix (record m { regs = handler_dropped m.regs }) → GoesOnTo xcm start (to_appendix (record m { regs = handler_dropped m.regs }))
  from_place zero lt o = absurd (omega (arith, lt))
  from_place (suc n) lt o = (n, o)

  pub ended_goes_on : 0 < place → (next_part : Part) (next_instructions : List Instruction) (last : Registers)
      → (let z : Part × List Instruction × Registers = (next_part, next_instructions, last) in z) ≡ appendix_of (handler_dropped m.regs)
      → GoesOnTo xcm start (begin next_part next_instructions (machine last m.part))
  ended_goes_on lt next_part next_instructions last c =
      subst (λ (z : Part × List Instruction × Registers). GoesOnTo xcm start (begin z.0 z.1 (machine z.2 m.part))) (sym c) (from_place place lt over)

  ended_balance : IsOrderly xcm → (most : Weight) → IsBalanced most start → Balances most m.regs.appendix (control_of (without_appendix (handler_dropped m.regs)))
  ended_balance orderly most b =
      balanced_begin most Appendix m.regs.appendix (record m { regs = without_appendix (handler_dropped m.regs) }) (subst (IsBalanced most) over (steps_balanced xcm orderly most place start b))

  pub ended_short : IsOrderly xcm → (most : Weight) → IsBalanced most start → m.regs.surplus.ref_time + m.regs.handler_weight.ref_time < 2 ^ 64
  ended_short orderly most b = let f = ended_balance orderly most b in omega (arith, f.in_time.within, f.short)

  pub ended_small : IsOrderly xcm → (most : Weight) → IsBalanced most start → m.regs.surplus.proof_size + m.regs.handler_weight.proof_size < 2 ^ 64
  ended_small orderly most b = let f = ended_balance orderly most b in omega (arith, f.in_size.within, f.small)
