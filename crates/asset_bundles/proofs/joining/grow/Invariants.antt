use Rattle.std.proofs.Common.{◌≡◌}
use Rattle.asset_bundles.proofs.Growing.{grown_first}
use Rattle.asset_bundles.proofs.joining.grow.Given as goal

abbrev pub invariant-loop-item : goal.invariant-loop-item
invariant-loop-item l = l.item-items ≡ grown_first l.more l.item-index l.fn.items.items
