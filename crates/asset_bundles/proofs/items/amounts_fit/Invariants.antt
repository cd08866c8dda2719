use Rattle.std.proofs.Common.{take}
use Rattle.asset_bundles.specs.Portions.{AreWithinMost}
use Rattle.asset_bundles.proofs.items.amounts_fit.Given as goal

abbrev pub invariant-loop-item : goal.invariant-loop-item
invariant-loop-item l = AreWithinMost (take l.item-index l.items)
