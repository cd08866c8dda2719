use Rattle.std.proofs.Common.{◌≡◌, ◌++◌, ◌≤◌, drop, map}
use Rattle.std.specs.List.{AllByRecursion}
use Rattle.scale_codec.specs.Spelling.{joined}
use Rattle.xcm_program.specs.Measure.{deep_count}
use Rattle.xcm_format.specs.Programs.{instruction_spelling, FitsInstruction}
use Rattle.xcm_format.specs.Messages.{message}
use Rattle.xcm_program.specs.Conversions.{HasAmounts}
use Rattle.xcm_format.specs.Writable.{IsNamedOne}
use Rattle.versioned_xcm.specs.Message.{forwarded}
use Rattle.versioned_xcm.proofs.encoding.put_forwarded.Given as goal

abbrev pub invariant-loop-i : goal.invariant-loop-i
invariant-loop-i l = record {
  kept : l.o.kept ≡ l.fn.o.kept;
  text : l.o.text ++ joined (map (instruction_spelling l.v) (drop l.i-index l.items)) ≡ l.fn.o.text ++ message l.v (forwarded l.first l.items);
  fits : AllByRecursion (FitsInstruction l.v) (drop l.i-index l.items) → AllByRecursion (FitsInstruction l.v) l.items;
  named : AllByRecursion (IsNamedOne l.v) (drop l.i-index l.items);
  amounts : AllByRecursion HasAmounts (drop l.i-index l.items);
  count : deep_count (drop l.i-index l.items) ≤ deep_count l.items;
}
