use Rattle.std.proofs.Common.{◌≡◌, ◌-◌, ◌+◌, ◌*◌, ◌≤◌, min}
use Rattle.std.specs.Prelude.{vec_len, vec_capacity}
use Rattle.scale_codec.specs.Reading.{repeated}
use Rattle.scale_codec.proofs.Lemmas.Loops.{with_front}
use Rattle.versioned_xcm.specs.Programs.{instruction_step, program_at}
use Rattle.versioned_xcm.proofs.reading.+program.Given as goal

abbrev pub decreases-fill_instruction : goal.decreases-fill_instruction
decreases-fill_instruction l = 2 * l.depth + 1

abbrev pub decreases-take_to_depth : goal.decreases-take_to_depth
decreases-take_to_depth l = 2 * l.depth

abbrev pub invariant-take_to_depth-loop : goal.invariant-take_to_depth-loop
invariant-take_to_depth-loop l = record {
  read : with_front l.items.items (repeated (instruction_step l.v (program_at l.v (l.depth - 1))) (l.count - l.counter) (l.left, l.c)) ≡ program_at l.v l.depth l.most l.fn.c;
  filled : vec_len l.items ≡ l.counter;
  spare : l.counter + l.left ≤ l.most;
  room : vec_capacity l.items ≡ min l.count l.most;
}
