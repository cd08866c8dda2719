-- Lemmas on the definitions of `specs/Running.antt`: what proofs cite.
use Rattle.std.specs.Prelude.{◌<◌, ◌^◌, List}
use Rattle.xcm_program.specs.declared.instruction.Instruction.{Instruction}
use Rattle.xcm_program.specs.declared.rule.WeightRule.{WeightRule}
use Rattle.xcm_program.specs.Measure.{deep_count}
use Rattle.xcm_program.specs.Weights.{ref_time_of, proof_size_of}

-- instructions that don't run have a weight
pub record IsWeighable (rule : WeightRule) (program : List Instruction) : Type 0 where
  pub few : deep_count program < 2 ^ 32
  pub short : ref_time_of rule program < 2 ^ 64
  pub small : proof_size_of rule program < 2 ^ 64
