use Rattle.std.proofs.Common.{◌≡◌, ◌+◌, ◌*◌, ◌≤◌, drop}
use Rattle.xcm_program.specs.Measure.{deep_count_one, deep_count, sends}
use Rattle.xcm_program.proofs.measure.+sends.Given as goal

abbrev pub decreases-sends_one : goal.decreases-sends_one
decreases-sends_one l = 2 * deep_count_one l.instruction.now

abbrev pub decreases-sends : goal.decreases-sends
decreases-sends l = 2 * deep_count l.program.now + 1

abbrev pub invariant-sends-loop-instruction : goal.invariant-sends-loop-instruction
invariant-sends-loop-instruction l = record {
  sent : l.count + sends (drop l.instruction-index l.instruction-items) ≡ sends l.program;
  bound : l.count + deep_count (drop l.instruction-index l.instruction-items) ≤ deep_count l.program;
}
