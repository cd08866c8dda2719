use Rattle.std.proofs.Common.{◌≡◌, ◌++◌, ◌+◌, ◌*◌, ◌≤◌, drop, map}
use Rattle.std.specs.List.{AllByRecursion}
use Rattle.scale_codec.specs.Spelling.{joined}
use Rattle.xcm_program.specs.Measure.{deep_count_one, deep_count}
use Rattle.xcm_format.specs.Programs.{instruction_spelling, program_spelling, FitsInstruction}
use Rattle.xcm_program.specs.Conversions.{HasAmounts}
use Rattle.xcm_format.specs.Writable.{IsNamedOne}
use Rattle.versioned_xcm.proofs.writing.+written.Given as goal

abbrev pub decreases-put_instruction : goal.decreases-put_instruction
decreases-put_instruction l = 2 * deep_count_one l.i.now

abbrev pub decreases-put_program : goal.decreases-put_program
decreases-put_program l = 2 * deep_count l.p.now + 1

abbrev pub invariant-put_program-loop-i : goal.invariant-put_program-loop-i
invariant-put_program-loop-i l = record {
  kept : l.o.kept ≡ l.fn.o.kept;
  text : l.o.text ++ joined (map (instruction_spelling l.v) (drop l.i-index l.items)) ≡ l.fn.o.text ++ program_spelling l.v l.items;
  fits : AllByRecursion (FitsInstruction l.v) (drop l.i-index l.items) → AllByRecursion (FitsInstruction l.v) l.items;
  named : AllByRecursion (IsNamedOne l.v) (drop l.i-index l.items);
  amounts : AllByRecursion HasAmounts (drop l.i-index l.items);
  count : deep_count (drop l.i-index l.items) ≤ deep_count l.items;
}
