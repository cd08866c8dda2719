-- What is admitted may be sent where what came in might, and every run of it is ready for whichever instruction comes next.
use Rattle.std.proofs.Common.{◌≡◌, ℕ, zero, suc, Bool, true, false, ◌&&◌, List, [], ◌∷◌, Option, Some, None, Ok, refl, sym, ap, ◌∙◌, subst, arith}
use Rattle.std.specs.Prelude.{slice_get, slice_set, find}
use Rattle.std.specs.List.{AllByRecursion}
use Rattle.std.specs.Option.{option_map_or}
use Rattle.locations.specs.declared.relative.Location.{Location}
use Rattle.operands.specs.declared.query.OpenQuery.{OpenQuery}
use Rattle.operands.specs.declared.weight.Weight.{Weight}
use Rattle.operands.specs.declared.weight.WeightLimit.{WeightLimit}
use Rattle.operands.specs.declared.weight.WeightLimit.TheVariants.{Limited}
use Rattle.operands.specs.Weights.{is_within}
use Rattle.trust_tables.specs.Trust.{listing}
use Rattle.xcm_program.specs.declared.instruction.Instruction.{Instruction, out-Instruction, out-roll-Instruction}
use Rattle.xcm_program.specs.declared.instruction.Instruction.TheOpen.{Instruction-F}
use Rattle.xcm_program.specs.Measure.{inner_of}
use Rattle.xcm_program.specs.Everywhere.{AllInside}
use Rattle.xcm_program.specs.Conversions.{names_concrete_ids, is_convertible_one, is_convertible, HasAmount, HasAmounts}
use Rattle.xcm_program.specs.Weights.{weight_of}
use Rattle.xcm_program.proofs.Lemmas.{convertible_inside, is_convertible_one-is, amounts_open, amounts_here}
use Rattle.barriers.specs.declared.barrier.Barrier.{Barrier}
use Rattle.barriers.specs.declared.barrier.Barrier.TheVariants.{Credit, Paid, Explicit, Unpaid, Responses}
use Rattle.barriers.specs.Barriers.{with_limit, limited, purchase_index, left_by, decided, allows}
use Rattle.exec_base.specs.declared.event.Part.TheVariants as parts
use Rattle.exec_base.specs.Part.{ChainPart}
use Rattle.exec_base.specs.Sending.{IsForwardable}
use Rattle.exec_rules.specs.Machine.{Machine, control_of}
use Rattle.exec_rules.specs.Run.{begin, machine_of}
use Rattle.exec_rules.specs.Keeping.{AllAhead, IsAheadOf}
use Rattle.exec_rules.proofs.Lemmas.KeepingLaws.{begin_machine}
use Rattle.exec_rules.specs.Readiness.{IsAtRest, IsSteady, IsSoundInstruction}
use Rattle.exec_rules.proofs.Lemmas.ListingLaws.{nothing_listed}
use Rattle.exec_rules.specs.declared.rules.ChainRules.{ChainRules}
use Rattle.exec_rules.specs.declared.admission.Admitted.{Admitted}
use Rattle.exec_rules.specs.Admission as admitting
use Rattle.exec_rules.specs.Execution.{first_machine, first_stage}
use Rattle.exec_rules.proofs.Weighed.{inner-limited, sum_decided_count}

-- ---- one instruction with another limit
amount_kept : (limit : WeightLimit) (l : Instruction-F Instruction) → HasAmount Instruction l → HasAmount Instruction (with_limit limit l)
amount_kept limit (Instruction-F.BuyExecution fees most) h = h
amount_kept limit _ h = h

names_kept : (limit : WeightLimit) (l : Instruction-F Instruction) → names_concrete_ids (with_limit limit l) ≡ names_concrete_ids l
names_kept limit (Instruction-F.BuyExecution fees most) = refl
names_kept limit _ = refl

amounts_kept : (limit : WeightLimit) (i : Instruction) → HasAmounts i → HasAmounts (limited limit i)
amounts_kept limit i h =
    let o = amounts_open i h in
    amounts_here (limited limit i) (subst (HasAmount Instruction) (sym (out-roll-Instruction (with_limit limit (out-Instruction i)))) (amount_kept limit (out-Instruction i) o.0))
    (subst (AllInside HasAmounts) (sym (inner-limited limit i)) o.1)

convertible_kept : (limit : WeightLimit) (i : Instruction) → is_convertible_one (limited limit i) ≡ is_convertible_one i
convertible_kept limit i =
    is_convertible_one-is (limited limit i)
    ∙ ap (λ (l : Instruction-F Instruction). names_concrete_ids l && convertible_inside (inner_of (limited limit i))) (out-roll-Instruction (with_limit limit (out-Instruction i)))
    ∙ ap (λ (b : Bool). b && convertible_inside (inner_of (limited limit i))) (names_kept limit (out-Instruction i))
    ∙ ap (λ (o : Option (List Instruction)). names_concrete_ids (out-Instruction i) && convertible_inside o) (inner-limited limit i)
    ∙ sym (is_convertible_one-is i)

-- ---- a program in which one limit is another
same_some : (x y : Instruction) → Some x ≡ Some y → x ≡ y
same_some x y e = cc

convertible_set : (p : List Instruction) (k : ℕ) (x y : Instruction) → slice_get p k ≡ Some x → is_convertible_one y ≡ is_convertible_one x → is_convertible (slice_set p k y) ≡ is_convertible p
convertible_set [] k x y e h = absurd cc
convertible_set (z ∷ p) zero x y e h = ap (λ (b : Bool). b && is_convertible p) (h ∙ ap is_convertible_one (sym (same_some z x e)))
convertible_set (z ∷ p) (suc k) x y e h = ap (λ (b : Bool). is_convertible_one z && b) (convertible_set p k x y e h)

amounts_set : (p : List Instruction) (k : ℕ) (x y : Instruction) → slice_get p k ≡ Some x → (HasAmounts x → HasAmounts y) → AllByRecursion HasAmounts p → AllByRecursion HasAmounts (slice_set p k y)
amounts_set [] k x y e h all = absurd cc
amounts_set (z ∷ p) zero x y e h all = (h (subst HasAmounts (same_some z x e) all.0), all.1)
amounts_set (z ∷ p) (suc k) x y e h all = (all.0, amounts_set p k x y e h all.1)

convertible_limit : (limit : WeightLimit) (k : ℕ) (p : List Instruction) (o : Option Instruction) → slice_get p k ≡ o → is_convertible (option_map_or (λ i. slice_set p k (limited limit i)) o p) ≡ is_convertible p
convertible_limit limit k p None e = refl
convertible_limit limit k p (Some x) e = convertible_set p k x (limited limit x) e (convertible_kept limit x)

amounts_limit : (limit : WeightLimit) (k : ℕ) (p : List Instruction) (o : Option Instruction) → slice_get p k ≡ o → AllByRecursion HasAmounts p → AllByRecursion HasAmounts (option_map_or (λ i. slice_set p k (limited limit i)) o p)
amounts_limit limit k p None e all = all
amounts_limit limit k p (Some x) e all = amounts_set p k x (limited limit x) e (amounts_kept limit x) all

convertible_left : (weight : Weight) (p : List Instruction) (barrier : Barrier) → is_convertible (left_by weight p barrier) ≡ is_convertible p
convertible_left weight p Credit = refl
convertible_left weight p Paid = convertible_limit (Limited weight) (purchase_index p) p (slice_get p (purchase_index p)) refl
convertible_left weight p (Explicit origins) = refl
convertible_left weight p (Unpaid origins) = refl
convertible_left weight p Responses = refl

amounts_left : (weight : Weight) (p : List Instruction) (barrier : Barrier) → AllByRecursion HasAmounts p → AllByRecursion HasAmounts (left_by weight p barrier)
amounts_left weight p Credit all = all
amounts_left weight p Paid all = amounts_limit (Limited weight) (purchase_index p) p (slice_get p (purchase_index p)) refl all
amounts_left weight p (Explicit origins) all = all
amounts_left weight p (Unpaid origins) all = all
amounts_left weight p Responses all = all

forwardable_decided : (weight : Weight) (p : List Instruction) (o : Option Barrier) → IsForwardable p → IsForwardable (decided weight p o).1
forwardable_decided weight p None f = f
forwardable_decided weight p (Some barrier) f = record {
  few = let n = sum_decided_count weight p (Some barrier) in omega (arith, f.few, n);
  named = convertible_left weight p barrier ∙ f.named;
  amounts = amounts_left weight p barrier f.amounts;
}

-- ---- what is admitted
module _ (rules : ChainRules) (origin : Location) (credit : Weight) (queries : List OpenQuery) (p : List Instruction) (f : IsForwardable p) where
  by_barriers_forwardable : (w : Weight) (b : Bool) (q : List Instruction) (a : Admitted) → IsForwardable q → admitting.by_barriers w (b, q) ≡ Ok a → IsForwardable a.program
  by_barriers_forwardable w true q a g e = let same : q ≡ a.program = cc in subst IsForwardable same g
  by_barriers_forwardable w false q a g e = absurd cc

  by_limit_forwardable : (w : Weight) (b : Bool) (a : Admitted) → admitting.by_limit rules origin credit queries p w b ≡ Ok a → IsForwardable a.program
  by_limit_forwardable w true a e =
      let found : Option Barrier = find (allows origin w credit queries p) rules.barriers in
      by_barriers_forwardable w (decided w p found).0 (decided w p found).1 a (forwardable_decided w p found f) e
  by_limit_forwardable w false a e = absurd cc

  by_weight_forwardable : (o : Option Weight) (a : Admitted) → admitting.by_weight rules origin credit queries p o ≡ Ok a → IsForwardable a.program
  by_weight_forwardable None a e = absurd cc
  by_weight_forwardable (Some w) a e = by_limit_forwardable w (is_within w rules.limit) a e

  pub admitted_forwardable : (a : Admitted) → admitting.admitted rules origin credit queries p ≡ Ok a → IsForwardable a.program
  admitted_forwardable a e = by_weight_forwardable (weight_of rules.weight p) a e

-- ---- the beginning
pub first_steady : (rules : ChainRules) (origin : Location) (a : Admitted) (p : ChainPart) → IsAtRest p → IsSteady (machine_of (first_stage rules origin a p))
first_steady rules origin a p rest = subst IsSteady (sym (begin_machine parts.Program a.program (first_machine rules origin p))) (record { rest = rest; holding = nothing_listed (listing p.rows) })

begin_ahead : (Q : Instruction → Type 0) (program : List Instruction) (m : Machine) → AllAhead Q program (control_of m.regs) → IsAheadOf Q (begin parts.Program program m)
begin_ahead Q [] m h = h
begin_ahead Q (x ∷ behind) m h = h

pub first_ahead : (rules : ChainRules) (origin : Location) (a : Admitted) (p : ChainPart) → AllByRecursion IsSoundInstruction a.program → IsAheadOf IsSoundInstruction (first_stage rules origin a p)
first_ahead rules origin a p all = begin_ahead IsSoundInstruction a.program (first_machine rules origin p) (record { ahead_hold = all; handler_holds = tt; appendix_holds = tt })
