-- What is summed up of a program to weigh it, and bounds that tell that the sums fit. This project's own vocabulary.
use Rattle.std.specs.Prelude.{◌≡◌, ℕ, ◌*◌, ◌^◌, ◌≤◌, List}
use Rattle.operands.specs.declared.weight.Weight.{Weight}
use Rattle.xcm_program.specs.declared.instruction.Instruction.{Instruction}
use Rattle.xcm_program.specs.declared.rule.WeightRule.{WeightRule}
use Rattle.xcm_program.specs.Measure.{deep_count}
use Rattle.xcm_program.specs.Weights.{kept_count, weight_in, ref_time_of, proof_size_of}

-- what the instructions weigh, whether that is computable or not
abbrev pub weight_sum : WeightRule → List Instruction → Weight
weight_sum rule program = record { ref_time = ref_time_of rule program; proof_size = proof_size_of rule program }

-- the instructions that count, and the weight in both dimensions
pub record IsSum (unit : Weight) (program : List Instruction) (instructions ref_time proof_size : ℕ) : Type 0 where
  pub instructions_is : instructions ≡ kept_count program
  pub ref_time_is : ref_time ≡ weight_in (λ w. w.ref_time) unit.ref_time program
  pub proof_size_is : proof_size ≡ weight_in (λ w. w.proof_size) unit.proof_size program
  pub few : instructions ≤ deep_count program
  pub short : ref_time ≤ 2 ^ 65 * deep_count program
  pub small : proof_size ≤ 2 ^ 65 * deep_count program
