use Rattle.std.proofs.Common.{◌≡◌, drop}
use Rattle.asset_lists.specs.Units.{unit_of}
use Rattle.asset_bundles.specs.Bundles.{found}
use Rattle.asset_bundles.proofs.items.held.Given as goal

abbrev pub invariant-loop-item : goal.invariant-loop-item
invariant-loop-item l = found (unit_of l.asset) l.items ≡ found (unit_of l.asset) (drop l.item-index l.items)
