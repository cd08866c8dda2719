use Rattle.std.proofs.Common.{◌≡◌, ◌≤◌, take}
use Rattle.amounts.specs.Rows.{sum_where}
use Rattle.asset_lists.specs.declared.units.Kind.{Kind}
use Rattle.asset_bundles.specs.Bundles.{rows_of, is_asset}
use Rattle.asset_bundles.proofs.items.count.Given as goal

abbrev pub invariant-loop-item : goal.invariant-loop-item
invariant-loop-item l = (l.number ≤ l.item-index) × (l.number ≡ sum_where (is_asset l.class Kind.Class) (rows_of (take l.item-index l.items)))
