use Rattle.std.proofs.Common.{◌≡◌, ◌++◌, ◌+◌, ◌*◌, ◌≤◌, drop, string_bytes}
use Rattle.xcm_program.specs.Measure.{deep_count_one, deep_count}
use Rattle.message_text.specs.Messages.{program_text}
use Rattle.message_text.proofs.messages.+program.Given as goal

abbrev pub decreases-push_instruction : goal.decreases-push_instruction
decreases-push_instruction l = 2 * deep_count_one l.instruction.now

abbrev pub decreases-push_program : goal.decreases-push_program
decreases-push_program l = 2 * deep_count l.program.now + 1

abbrev pub invariant-push_program-loop-instruction : goal.invariant-push_program-loop-instruction
invariant-push_program-loop-instruction l = record {
  text : string_bytes l.text ++ program_text l.level (drop l.instruction-index l.instruction-items)
      ≡ string_bytes l.initial.text ++ program_text l.level l.program;
  few : deep_count (drop l.instruction-index l.instruction-items) ≤ deep_count l.program;
}
