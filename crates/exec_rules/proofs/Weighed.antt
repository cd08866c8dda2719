-- A barrier changes no weight.
use Rattle.std.proofs.Common.{◌≡◌, ℕ, zero, suc, ◌+◌, ◌<◌, ◌≤◌, ◌^◌, List, [], ◌∷◌, Bool, true, false, ◌&&◌, Option, Some, None, Ok, refl, sym, ap, ◌∙◌, subst, arith}
use Rattle.std.specs.Prelude.{if◌then◌else◌, slice_get, slice_set, find}
use Rattle.std.specs.Option.{option_map_or}
use Rattle.locations.specs.declared.relative.Location.{Location}
use Rattle.operands.specs.declared.query.OpenQuery.{OpenQuery}
use Rattle.operands.specs.declared.weight.Weight.{Weight}
use Rattle.operands.specs.Weights.{is_within}
use Rattle.operands.specs.declared.weight.WeightLimit.{WeightLimit}
use Rattle.operands.specs.declared.weight.WeightLimit.TheVariants.{Limited}
use Rattle.xcm_program.specs.declared.rule.WeightRule.{WeightRule}
use Rattle.xcm_program.specs.declared.instruction.Instruction.{Instruction, out-Instruction, out-roll-Instruction}
use Rattle.xcm_program.specs.declared.instruction.Instruction.TheOpen.{Instruction-F}
use Rattle.xcm_program.specs.Measure.{inner, deep_count_one, deep_count}
use Rattle.xcm_program.specs.Weights.{kept, required, kept_one, kept_count, weight_one, ref_time_of, proof_size_of, weight_of}
use Rattle.barriers.specs.declared.barrier.Barrier.{Barrier}
use Rattle.barriers.specs.declared.barrier.Barrier.TheVariants.{Credit, Paid, Explicit, Unpaid, Responses}
use Rattle.barriers.specs.Barriers.{with_limit, limited, purchase_index, left_by, decided, allows}
use Rattle.weight_trader.specs.Sums.{weight_sum}
use Rattle.exec_rules.specs.Accounts.{ref_time, proof_size}
use Rattle.xcm_program.proofs.Lemmas.{deep_count_inside, deep_count_one-is, total_of, total_inside, kept_one-is, weight_one-is}
use Rattle.exec_rules.specs.declared.rules.ChainRules.{ChainRules}
use Rattle.exec_rules.specs.declared.admission.Admitted.{Admitted}
use Rattle.exec_rules.specs.Admission as admitting
use Rattle.exec_rules.specs.Admission.{IsWeighed}
use Rattle.plain_lists.proofs.Lemmas.Facts.{same_some as same_Some, told_at_most as at_most, told_below as below}

-- ---- one layer, with another limit

kept-limit : (limit : WeightLimit) (l : Instruction-F Instruction) → kept (with_limit limit l) ≡ kept l
kept-limit limit (Instruction-F.BuyExecution fees most) = refl
kept-limit limit _ = refl

required-limit : (limit : WeightLimit) (l : Instruction-F Instruction) → required (with_limit limit l) ≡ required l
required-limit limit (Instruction-F.BuyExecution fees most) = refl
required-limit limit _ = refl

inner-limit : (limit : WeightLimit) (l : Instruction-F Instruction) → inner (with_limit limit l) ≡ inner l
inner-limit limit (Instruction-F.BuyExecution fees most) = refl
inner-limit limit _ = refl

module _ (limit : WeightLimit) (i : Instruction) where
  kept-limited : kept (out-Instruction (limited limit i)) ≡ kept (out-Instruction i)
  kept-limited = ap kept (out-roll-Instruction (with_limit limit (out-Instruction i))) ∙ kept-limit limit (out-Instruction i)

  required-limited : required (out-Instruction (limited limit i)) ≡ required (out-Instruction i)
  required-limited = ap required (out-roll-Instruction (with_limit limit (out-Instruction i))) ∙ required-limit limit (out-Instruction i)

  pub inner-limited : inner (out-Instruction (limited limit i)) ≡ inner (out-Instruction i)
  inner-limited = ap inner (out-roll-Instruction (with_limit limit (out-Instruction i))) ∙ inner-limit limit (out-Instruction i)

  kept_one-limited : kept_one (limited limit i) ≡ kept_one i
  kept_one-limited = kept_one-is (limited limit i) ∙ ap (λ (o : Option (List Instruction)). 1 + total_inside kept_one o) kept-limited ∙ sym (kept_one-is i)

  deep_count_one-limited : deep_count_one (limited limit i) ≡ deep_count_one i
  deep_count_one-limited = deep_count_one-is (limited limit i) ∙ ap (λ (o : Option (List Instruction)). 1 + deep_count_inside o) inner-limited ∙ sym (deep_count_one-is i)

  weight_one-limited : (dimension : Weight → ℕ) (unit : ℕ) → weight_one dimension unit (limited limit i) ≡ weight_one dimension unit i
  weight_one-limited dimension unit =
      weight_one-is dimension unit (limited limit i)
      ∙ ap (λ (w : Weight). unit + dimension w + total_inside (weight_one dimension unit) (kept (out-Instruction (limited limit i)))) required-limited
      ∙ ap (λ (o : Option (List Instruction)). unit + dimension (required (out-Instruction i)) + total_inside (weight_one dimension unit) o) kept-limited
      ∙ sym (weight_one-is dimension unit i)

-- ---- a sum over a program in which one limit is another

module _ (one : Instruction → ℕ) where
  sum-set : (p : List Instruction) (k : ℕ) (x y : Instruction) → slice_get p k ≡ Some x → one y ≡ one x → total_of one (slice_set p k y) ≡ total_of one p
  sum-set [] k x y e h = absurd cc
  sum-set (z ∷ p) zero x y e h = ap (λ (n : ℕ). n + total_of one p) (h ∙ ap one (sym (same_Some z x e)))
  sum-set (z ∷ p) (suc k) x y e h = ap (λ (n : ℕ). one z + n) (sum-set p k x y e h)

  module _ (same : (limit : WeightLimit) (i : Instruction) → one (limited limit i) ≡ one i) where
    sum-limit : (limit : WeightLimit) (k : ℕ) (p : List Instruction) (o : Option Instruction) → slice_get p k ≡ o → total_of one (option_map_or (λ i. slice_set p k (limited limit i)) o p) ≡ total_of one p
    sum-limit limit k p None e = refl
    sum-limit limit k p (Some x) e = sum-set p k x (limited limit x) e (same limit x)

    sum-left : (weight : Weight) (p : List Instruction) (barrier : Barrier) → total_of one (left_by weight p barrier) ≡ total_of one p
    sum-left weight p Credit = refl
    sum-left weight p Paid = sum-limit (Limited weight) (purchase_index p) p (slice_get p (purchase_index p)) refl
    sum-left weight p (Explicit origins) = refl
    sum-left weight p (Unpaid origins) = refl
    sum-left weight p Responses = refl

    sum-decided : (weight : Weight) (p : List Instruction) (o : Option Barrier) → total_of one (decided weight p o).1 ≡ total_of one p
    sum-decided weight p None = refl
    sum-decided weight p (Some barrier) = sum-left weight p barrier

-- a barrier leaves as many instructions
pub sum_decided_count : (weight : Weight) (p : List Instruction) (o : Option Barrier) → deep_count (decided weight p o).1 ≡ deep_count p
sum_decided_count = sum-decided deep_count_one deep_count_one-limited

-- ---- a weight that is computable

record IsComputed (rule : WeightRule) (p : List Instruction) (w : Weight) : Type 0 where
  is : w ≡ weight_sum rule p
  counted : kept_count p ≤ rule.max_instructions
  short : ref_time_of rule p < 2 ^ 64
  small : proof_size_of rule p < 2 ^ 64

all_three : (a b c : Bool) (w v : Weight) → (if a && b && c then Some w else None) ≡ Some v → (w ≡ v) × (a ≡ true) × (b ≡ true) × (c ≡ true)
all_three true true true w v e = (same_Some w v e, refl, refl, refl)
all_three true true false w v e = absurd (cc)
all_three true false c w v e = absurd (cc)
all_three false b c w v e = absurd (cc)

computed : (rule : WeightRule) (p : List Instruction) (w : Weight) → weight_of rule p ≡ Some w → IsComputed rule p w
unfolding weight_of
computed rule p w e = let t = all_three _ _ _ (weight_sum rule p) w e in record { is = sym t.0; counted = at_most _ _ t.1; short = below _ _ t.2; small = below _ _ t.3 }

-- ---- what is admitted

module _ (rules : ChainRules) (origin : Location) (credit : Weight) (queries : List OpenQuery) (p : List Instruction) (few : deep_count p < 2 ^ 32) where
  by_barriers_weighed : (w : Weight) (b : Bool) (q : List Instruction) (a : Admitted) → IsComputed rules.weight p w → total_of kept_one q ≡ total_of kept_one p → total_of deep_count_one q ≡ total_of deep_count_one p → ref_time_of rules.weight q ≡ ref_time_of rules.weight p
      → proof_size_of rules.weight q ≡ proof_size_of rules.weight p → admitting.by_barriers w (b, q) ≡ Ok a → IsWeighed rules.weight a
  by_barriers_weighed w true q a c k n t z e =
      let same : (let r : Admitted = record { program = q; weight = w } in r) ≡ a = cc in
      let weighs : w ≡ weight_sum rules.weight q = c.is ∙ ap (λ (m : ℕ). let v : Weight = record { ref_time = m; proof_size = proof_size_of rules.weight p } in v) (sym t) ∙ ap (λ (m : ℕ). let v : Weight = record { ref_time = ref_time_of rules.weight q; proof_size = m } in v) (sym z) in
      subst (IsWeighed rules.weight) same (record {
        is = weighs;
        counted = omega (arith, c.counted, k);
        few = omega (arith, few, n);
        short = let x = ap ref_time c.is in omega (arith, c.short, x);
        small = let x = ap proof_size c.is in omega (arith, c.small, x);
      })
  by_barriers_weighed w false q a c k n t z e = absurd (cc)

  by_limit_weighed : (w : Weight) (b : Bool) (a : Admitted) → IsComputed rules.weight p w → admitting.by_limit rules origin credit queries p w b ≡ Ok a → IsWeighed rules.weight a
  by_limit_weighed w true a c e =
      let found : Option Barrier = find (allows origin w credit queries p) rules.barriers in
      by_barriers_weighed w (decided w p found).0 (decided w p found).1 a c (sum-decided kept_one kept_one-limited w p found) (sum-decided deep_count_one deep_count_one-limited w p found)
      (sum-decided (weight_one ref_time rules.weight.unit.ref_time) (λ l i. weight_one-limited l i ref_time rules.weight.unit.ref_time) w p found)
      (sum-decided (weight_one proof_size rules.weight.unit.proof_size) (λ l i. weight_one-limited l i proof_size rules.weight.unit.proof_size) w p found) e
  by_limit_weighed w false a c e = absurd (cc)

  by_weight_weighed : (o : Option Weight) (a : Admitted) → weight_of rules.weight p ≡ o → admitting.by_weight rules origin credit queries p o ≡ Ok a → IsWeighed rules.weight a
  by_weight_weighed None a is e = absurd (cc)
  by_weight_weighed (Some w) a is e = by_limit_weighed w (is_within w rules.limit) a (computed rules.weight p w is) e

  pub admitted_weighed : (a : Admitted) → admitting.admitted rules origin credit queries p ≡ Ok a → IsWeighed rules.weight a
  admitted_weighed a e = by_weight_weighed (weight_of rules.weight p) a refl e
