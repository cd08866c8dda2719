use Rattle.std.proofs.Common.{◌≡◌, take}
use Rattle.asset_bundles.specs.Portions.{changed, left_of}
use Rattle.asset_bundles.proofs.portions.without.Given as goal

abbrev pub invariant-loop-item : goal.invariant-loop-item
invariant-loop-item l = l.left.items ≡ changed (left_of l.taken) (take l.item-index l.items)
