use Rattle.std.proofs.Common.{◌≡◌, ◌<◌, ◌≤◌, ◌+◌, ◌*◌, ◌^◌, ◌++◌, List, ℕ, length, map}
use Rattle.std.specs.List.{AllByRecursion}
use Rattle.xcm_program.specs.declared.instruction.Instruction.{Instruction}
use Rattle.xcm_program.specs.Measure.{deep_count, depth_one, greatest}
use Rattle.message_text.specs.Messages.{program_text}
use Rattle.tree_reading.specs.Rows.{IsOutside}
use Rattle.tree_reading.specs.Programs.{HasRows}
use Rattle.tree_reading.proofs.ProgramRows.{Waits}
use Rattle.tree_reading.proofs.programs.+program.Given as goal

abbrev pub decreases-put_program : goal.decreases-put_program
decreases-put_program l = 3 * l.levels

abbrev pub decreases-put_instruction : goal.decreases-put_instruction
decreases-put_instruction l = 3 * l.levels + 1

abbrev pub decreases-put_instructions : goal.decreases-put_instructions
decreases-put_instructions l = 3 * l.levels + 2

abbrev pub decreases-put_instructions-loop-form : goal.decreases-put_instructions-loop-form
decreases-put_instructions-loop-form l = length l.rows.rest.now

abbrev pub invariant-put_instructions-loop-form : goal.invariant-put_instructions-loop-form
invariant-put_instructions-loop-form l = record {
  shorter : length l.rows.rest.now ≤ length l.initial.rows.rest.now;
  waits : (program : List Instruction) (rest : List ℕ) → AllByRecursion (HasRows l.form.version) program → length program < 2 ^ 32 → deep_count program ≤ l.initial.left → greatest (map depth_one program) ≤ l.levels → IsOutside l.level rest
      → l.initial.rows.rest.now ≡ program_text l.level program ++ rest
      → Waits l.form.version l.level l.levels program rest l.rows.rest.now l.initial.out l.out l.initial.left l.left l.count;
}
