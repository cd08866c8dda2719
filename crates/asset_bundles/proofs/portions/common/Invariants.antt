use Rattle.std.proofs.Common.{◌≡◌, take}
use Rattle.asset_bundles.specs.Portions.{changed, common_with}
use Rattle.asset_bundles.proofs.portions.common.Given as goal

abbrev pub invariant-loop-item : goal.invariant-loop-item
invariant-loop-item l = l.both.items ≡ changed (common_with l.asked) (take l.item-index l.items)
