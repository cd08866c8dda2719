use Rattle.std.proofs.Common.{◌≡◌, ◌++◌, drop, map}
use Rattle.std.specs.List.{AllByRecursion}
use Rattle.scale_codec.specs.Spelling.{joined}
use Rattle.location_wire.specs.Spelling.{junction, junctions, FitsJunction}
use Rattle.location_wire.proofs.writing.put_junctions.Given as goal

abbrev pub invariant-loop-j : goal.invariant-loop-j
invariant-loop-j l = record {
  kept : l.o.kept ≡ l.fn.o.kept;
  text : l.o.text ++ joined (map junction (drop l.j-index l.items)) ≡ l.fn.o.text ++ junctions l.items;
  fits : AllByRecursion FitsJunction (drop l.j-index l.items) → AllByRecursion FitsJunction l.items;
}
