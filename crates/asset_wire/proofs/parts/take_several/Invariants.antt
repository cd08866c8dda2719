use Rattle.std.proofs.Common.{◌≡◌, ◌-◌, ◌+◌, ◌≤◌}
use Rattle.std.specs.Prelude.{vec_len, vec_capacity}
use Rattle.scale_codec.specs.Reading.{repeated}
use Rattle.scale_codec.proofs.Lemmas.Loops.{with_front}
use Rattle.asset_wire.specs.Reading.{asset_at}
use Rattle.asset_wire.proofs.parts.take_several.Given as goal

abbrev pub invariant-loop : goal.invariant-loop
invariant-loop l = record {
  read : with_front l.items.items (repeated (asset_at l.v) (l.count - l.counter) l.c) ≡ repeated (asset_at l.v) l.count l.initial.c;
  room : vec_len l.items + (l.count - l.counter) ≤ vec_capacity l.items;
}
