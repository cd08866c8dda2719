-- Which programs a chain runs. Source: xcm-executor's documentation of weights and barriers.
use Rattle.std.specs.Prelude.{◌≡◌, ◌≤◌, ◌<◌, ◌^◌, Bool, true, false, List, Option, Some, None, Result, Ok, Err}
use Rattle.locations.specs.declared.relative.Location.{Location}
use Rattle.operands.specs.declared.query.OpenQuery.{OpenQuery}
use Rattle.operands.specs.declared.weight.Weight.{Weight}
use Rattle.operands.specs.Weights.{is_within}
use Rattle.xcm_program.specs.declared.instruction.Instruction.{Instruction}
use Rattle.xcm_program.specs.declared.outcome.Outcome.{Outcome}
use Rattle.xcm_program.specs.declared.outcome.Outcome.TheVariants.{Incomplete, Error}
use Rattle.xcm_program.specs.declared.outcome.OutcomeError.TheVariants.{Barrier, WeightNotComputable, WeightLimitReached}
use Rattle.xcm_program.specs.declared.rule.WeightRule.{WeightRule}
use Rattle.xcm_program.specs.Measure.{deep_count}
use Rattle.xcm_program.specs.Weights.{kept_count, weight_of}
use Rattle.weight_trader.specs.Sums.{weight_sum}
use Rattle.barriers.specs.Barriers.{admission}
use Rattle.exec_rules.specs.declared.rules.ChainRules.{ChainRules}
use Rattle.exec_rules.specs.declared.admission.Admitted.{Admitted}

-- by the answer of the barriers, and the program that they leave
abbrev pub by_barriers : Weight → Bool × List Instruction → Result Admitted Outcome
by_barriers weight (true, program) = Ok (record { program = program; weight = weight })
by_barriers weight (false, program) = Err (Incomplete weight Barrier)

module _ (rules : ChainRules) (origin : Location) (credit : Weight) (queries : List OpenQuery) (program : List Instruction) where
  -- by whether the weight is within the chain's limit
  abbrev pub by_limit : Weight → Bool → Result Admitted Outcome
  by_limit weight true = by_barriers weight (admission origin weight credit queries rules.barriers program)
  by_limit weight false = Err (Error WeightLimitReached)

  -- by the program's weight
  abbrev pub by_weight : Option Weight → Result Admitted Outcome
  by_weight None = Err (Error WeightNotComputable)
  by_weight (Some weight) = by_limit weight (is_within weight rules.limit)

  -- a program to run and its weight, or the outcome: first the weight, then the limit, then the barriers decide
  abbrev pub admitted : Result Admitted Outcome
  admitted = by_weight (weight_of rules.weight program)

-- what is admitted weighs what is said, and has few enough instructions
pub record IsWeighed (rule : WeightRule) (a : Admitted) : Type 0 where
  pub is : a.weight ≡ weight_sum rule a.program
  pub counted : kept_count a.program ≤ rule.max_instructions
  pub few : deep_count a.program < 2 ^ 32
  pub short : a.weight.ref_time < 2 ^ 64
  pub small : a.weight.proof_size < 2 ^ 64
