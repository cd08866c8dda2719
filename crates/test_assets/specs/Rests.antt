-- What the tests say of the instructions that they weigh.
use Rattle.std.specs.Prelude.{◌≤◌, ◌+◌, ◌*◌, ℕ, List}
use Rattle.xcm_program.specs.declared.rule.WeightRule.{WeightRule}
use Rattle.xcm_program.specs.declared.instruction.Instruction.{Instruction}
use Rattle.xcm_program.specs.Weights.{ref_time_of, proof_size_of}

-- by any rule they weigh at most so many units, and a call of at most ten in each dimension
abbrev pub AreLight : ℕ → List Instruction → Type 0
AreLight units rest = (rule : WeightRule) → (ref_time_of rule rest ≤ units * rule.unit.ref_time + 10) × (proof_size_of rule rest ≤ units * rule.unit.proof_size + 10)
