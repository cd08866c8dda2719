use Rattle.std.proofs.Common.{◌≡◌, drop, None}
use Rattle.asset_bundles.specs.Bundles.{found}
use Rattle.asset_bundles.proofs.items.amount_by.Given as goal

abbrev pub invariant-loop-item : goal.invariant-loop-item
invariant-loop-item l = found (l.id, None) l.items ≡ found (l.id, None) (drop l.item-index l.items)
