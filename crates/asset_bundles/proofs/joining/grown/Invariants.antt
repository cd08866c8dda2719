use Rattle.std.proofs.Common.{◌≡◌, take}
use Rattle.asset_bundles.specs.Portions.{changed, grown_by}
use Rattle.asset_bundles.proofs.joining.grown.Given as goal

abbrev pub invariant-loop-item : goal.invariant-loop-item
invariant-loop-item l = l.grown.items ≡ changed (grown_by l.more) (take l.item-index l.items)
