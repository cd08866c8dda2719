use Rattle.std.proofs.Common.{◌≡◌, ◌-◌, ◌+◌, ◌≤◌, length}
use Rattle.std.specs.Prelude.{vec_len, vec_capacity}
use Rattle.scale_codec.specs.Reading.{repeated}
use Rattle.scale_codec.proofs.Lemmas.Loops.{with_front}
use Rattle.call_dispatch.specs.Reading.{item_at}
use Rattle.call_dispatch.proofs.parts.take_several.Given as goal

abbrev pub invariant-loop : goal.invariant-loop
invariant-loop l = record {
  read : with_front l.items.items (repeated item_at (l.count - l.counter) l.c) ≡ repeated item_at l.count l.initial.c;
  number : length l.items.items ≡ l.counter;
  few : l.counter ≤ l.count;
  room : vec_len l.items + (l.count - l.counter) ≤ vec_capacity l.items;
}
