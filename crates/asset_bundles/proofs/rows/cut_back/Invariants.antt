use Rattle.std.proofs.Common.{◌≡◌, ◌-◌, ◌≤◌, length, take}
use Rattle.asset_bundles.specs.Oldest.{ArePlaced}
use Rattle.asset_bundles.proofs.rows.cut_back.Given as goal

abbrev pub invariant-loop : goal.invariant-loop
invariant-loop l = record {
  placed : ArePlaced l.rows.entries l.places.keys;
  cut : l.rows.entries ≡ take (l.end - (l.counter - l.count)) l.fn.rows.entries;
  end : l.end ≡ length l.fn.rows.entries;
  from : l.count ≤ l.counter;
  to : l.counter ≤ l.end;
}
