-- The weight of instructions that don't run, from the first on.
use Rattle.std.proofs.Common.{◌≡◌, ◌+◌, List, [], ◌∷◌, ap, arith}
use Rattle.xcm_program.specs.declared.rule.WeightRule.{WeightRule}
use Rattle.xcm_program.specs.declared.instruction.Instruction.{Instruction}
use Rattle.xcm_program.specs.Measure.{deep_count}
use Rattle.xcm_program.specs.Weights.{ref_time_of, proof_size_of}
use Rattle.xcm_executor.proofs.Lemmas.Running.{IsWeighable}

module _ (rule : WeightRule) (items : List Instruction) (x : Instruction) (behind : List Instruction) (is : items ≡ x ∷ behind) where
  pub time_first : ref_time_of rule items ≡ ref_time_of rule (x ∷ []) + ref_time_of rule behind
  time_first = let e = ap (ref_time_of rule) is in omega (arith, e)

  pub size_first : proof_size_of rule items ≡ proof_size_of rule (x ∷ []) + proof_size_of rule behind
  size_first = let e = ap (proof_size_of rule) is in omega (arith, e)

  pub count_first : deep_count items ≡ deep_count (x ∷ []) + deep_count behind
  count_first = let e = ap deep_count is in omega (arith, e)

  pub weighable_first : IsWeighable rule items → IsWeighable rule (x ∷ [])
  weighable_first w = record { few = omega (arith, w.few, count_first); short = omega (arith, w.short, time_first); small = omega (arith, w.small, size_first) }

  pub weighable_behind : IsWeighable rule items → IsWeighable rule behind
  weighable_behind w = record { few = omega (arith, w.few, count_first); short = omega (arith, w.short, time_first); small = omega (arith, w.small, size_first) }
