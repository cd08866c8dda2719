use Rattle.std.proofs.Common.{◌≡◌, ◌-◌, ◌+◌, ◌*◌}
use Rattle.xcm_explain.specs.Stops.{walk_instructions, walk_program}
use Rattle.xcm_explain.proofs.stop.+walk.Given as goal

abbrev pub decreases-walk_instruction : goal.decreases-walk_instruction
decreases-walk_instruction l = 2 * l.depth + 1

abbrev pub decreases-walk_program : goal.decreases-walk_program
decreases-walk_program l = 2 * l.depth

abbrev pub invariant-walk_program-loop : goal.invariant-walk_program-loop
invariant-walk_program-loop l = record {
  walked : walk_instructions l.v (walk_program l.v (l.depth - 1)) (l.count - l.counter) l.left l.c ≡ walk_program l.v l.depth l.most l.fn.c;
}
