use Rattle.std.proofs.Common.{◌≡◌, ◌++◌, drop, map}
use Rattle.std.specs.List.{AllByRecursion}
use Rattle.scale_codec.specs.Spelling.{joined, counted, compact}
use Rattle.call_dispatch.specs.Spelling.{item, FitsItem}
use Rattle.call_dispatch.proofs.writing.put_items.Given as goal

abbrev pub invariant-loop-item : goal.invariant-loop-item
invariant-loop-item l = record {
  kept : l.o.kept ≡ l.fn.o.kept;
  text : l.o.text ++ joined (map item (drop l.item-index l.items)) ≡ l.fn.o.text ++ counted compact item l.items;
  fits : AllByRecursion FitsItem (drop l.item-index l.items) → AllByRecursion FitsItem l.items;
}
