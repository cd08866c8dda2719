use Rattle.std.proofs.Common.{◌≡◌, ◌≤◌, List, length, map, take}
use Rattle.std.specs.List.{AllByRecursion}
use Rattle.locations.specs.declared.grammar.Junction.{Junction}
use Rattle.location_wire.specs.Texts.{IsJunction, junction_text}
use Rattle.location_wire.proofs.text_reading.fill_interior.Given as goal

-- the junctions so far are the first of those that the texts are of
abbrev pub invariant-loop-part : goal.invariant-loop-part
invariant-loop-part l = record {
  few : length l.junctions ≤ 8;
  fits : AllByRecursion IsJunction l.junctions;
  found : (js : List Junction) → length js ≤ 8 → AllByRecursion IsJunction js → map (λ x. x.now) l.parts ≡ map junction_text js → l.junctions ≡ take l.part-index js;
}
