use Rattle.xcm_program.specs.Measure.{deep_count}
use Rattle.weight_trader.proofs.Kept.{IsSumBefore}
use Rattle.weight_trader.proofs.weighing.+sum_up.Given as goal

abbrev pub decreases-sum_up : goal.decreases-sum_up
decreases-sum_up l = deep_count l.program.now

abbrev pub invariant-loop-instruction : goal.invariant-loop-instruction
invariant-loop-instruction l = IsSumBefore l.unit l.program l.program l.instruction-index l.sums.instructions l.sums.ref_time l.sums.proof_size
