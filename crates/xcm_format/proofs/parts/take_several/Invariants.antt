use Rattle.std.proofs.Common.{◌≡◌, ◌-◌, ◌≤◌, length}
use Rattle.scale_codec.specs.Reading.{repeated}
use Rattle.scale_codec.proofs.Lemmas.Loops.{with_front}
use Rattle.xcm_format.specs.Reading.{pallet_info_at}
use Rattle.xcm_format.proofs.parts.take_several.Given as goal

abbrev pub invariant-loop : goal.invariant-loop
invariant-loop l = record {
  read : with_front l.items.items (repeated pallet_info_at (l.count - l.counter) l.c) ≡ repeated pallet_info_at l.count l.initial.c;
  number : length l.items.items ≡ l.counter;
  few : l.counter ≤ l.count;
}
