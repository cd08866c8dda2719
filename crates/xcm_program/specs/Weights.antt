-- What a program weighs. Source: xcm-executor's documentation of weights (a handler or an appendix weighs as if it ran). That each
-- instruction weighs one unit, and the most instructions that are counted, are this project's own rule.
use Rattle.std.specs.Prelude.{ℕ, ◌+◌, ◌^◌, ◌&&◌, nat_le, nat_lt, if◌then◌else◌, List, map, Option, Some, None}
use Rattle.operands.specs.declared.weight.Weight.{Weight}
use Rattle.xcm_program.specs.declared.rule.WeightRule.{WeightRule}
use Rattle.xcm_program.specs.declared.instruction.Instruction.{Instruction, fold-Instruction}
use Rattle.xcm_program.specs.declared.instruction.Instruction.TheOpen.{Instruction-F}
use Rattle.xcm_program.specs.Measure.{sum_of_list, sum_inside}

-- the program that may run after this one on the same chain
abbrev pub kept : {X : Type 0} → Instruction-F X → Option (List X)
kept (Instruction-F.SetErrorHandler xcm) = Some xcm
kept (Instruction-F.SetAppendix xcm) = Some xcm
kept _ = None

-- what a call may take
abbrev pub required : {X : Type 0} → Instruction-F X → Weight
required (Instruction-F.Transact _ w _) = w
required _ = record { ref_time = 0; proof_size = 0 }

-- the instructions, with those of handlers and appendices
abbrev pub kept_one : Instruction → ℕ
kept_one = fold-Instruction ℕ (λ l. 1 + sum_inside (kept l))

abbrev pub kept_count : List Instruction → ℕ
kept_count program = sum_of_list (map kept_one program)

-- one dimension of the weight: `unit` for each instruction, and what its call may take in that dimension
abbrev pub weight_one : (Weight → ℕ) → ℕ → Instruction → ℕ
weight_one dimension unit = fold-Instruction ℕ (λ l. unit + dimension (required l) + sum_inside (kept l))

abbrev pub weight_in : (Weight → ℕ) → ℕ → List Instruction → ℕ
weight_in dimension unit program = sum_of_list (map (weight_one dimension unit) program)

abbrev pub ref_time_of : WeightRule → List Instruction → ℕ
ref_time_of rule = weight_in (λ w. w.ref_time) rule.unit.ref_time

abbrev pub proof_size_of : WeightRule → List Instruction → ℕ
proof_size_of rule = weight_in (λ w. w.proof_size) rule.unit.proof_size

-- the weight; none where a dimension passes 2^64-1, or where more instructions are counted than the rule allows
unfoldable pub weight_of : WeightRule → List Instruction → Option Weight
weight_of rule program =
    if nat_le (kept_count program) rule.max_instructions && nat_lt (ref_time_of rule program) (2 ^ 64) && nat_lt (proof_size_of rule program) (2 ^ 64)
    then Some (record { ref_time = ref_time_of rule program; proof_size = proof_size_of rule program })
    else None
