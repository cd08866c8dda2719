use Rattle.std.proofs.Common.{◌≡◌, [], take}
use Rattle.asset_bundles.specs.Portions.{changed, above_by}
use Rattle.asset_bundles.proofs.joining.are_kept.Given as goal

abbrev pub invariant-loop-item : goal.invariant-loop-item
invariant-loop-item l = [] ≡ changed (above_by l.more) (take l.item-index l.items)
