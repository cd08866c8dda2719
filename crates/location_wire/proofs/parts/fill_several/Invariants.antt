use Rattle.std.proofs.Common.{◌≡◌, ◌-◌, length}
use Rattle.scale_codec.specs.Reading.{repeated}
use Rattle.scale_codec.proofs.Lemmas.Loops.{with_front}
use Rattle.location_wire.specs.Reading.{junction_at}
use Rattle.location_wire.proofs.parts.fill_several.Given as goal

abbrev pub invariant-loop-i : goal.invariant-loop-i
invariant-loop-i l = record {
  read : with_front l.junctions (repeated junction_at (l.count - l.i) l.c) ≡ repeated junction_at l.count l.initial.c;
  number : length l.junctions ≡ l.i;
}
