use Rattle.std.proofs.Common.{◌≡◌, ◌+◌, ◌*◌, ◌≤◌, drop}
use Rattle.xcm_program.specs.Measure.{deep_count_one, deep_count}
use Rattle.xcm_program.specs.Conversions.{is_convertible}
use Rattle.xcm_program.proofs.conversion.+convertible.Given as goal

abbrev pub decreases-is_convertible_one : goal.decreases-is_convertible_one
decreases-is_convertible_one l = 2 * deep_count_one l.instruction.now

abbrev pub decreases-is_convertible : goal.decreases-is_convertible
decreases-is_convertible l = 2 * deep_count l.program.now + 1

abbrev pub invariant-is_convertible-loop-instruction : goal.invariant-is_convertible-loop-instruction
invariant-is_convertible-loop-instruction l = record {
  same : is_convertible (drop l.instruction-index l.instruction-items) ≡ is_convertible l.program;
  count : deep_count (drop l.instruction-index l.instruction-items) ≤ deep_count l.program;
}
