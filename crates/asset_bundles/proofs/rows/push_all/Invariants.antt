use Rattle.std.proofs.Common.{◌≡◌, ◌++◌}
use Rattle.std.specs.Map.{values_of}
use Rattle.asset_bundles.specs.Oldest.{IsLonger, ArePlaced}
use Rattle.asset_bundles.proofs.rows.push_all.Given as goal

abbrev pub invariant-loop-trap : goal.invariant-loop-trap
invariant-loop-trap l = record {
  placed : ArePlaced l.rows.entries l.places.keys;
  longer : IsLonger l.fn.rows.entries l.rows.entries;
  added : values_of l.rows.entries ++ l.trap-iterator.rest.items ≡ values_of l.fn.rows.entries ++ l.fn.traps.items;
}
