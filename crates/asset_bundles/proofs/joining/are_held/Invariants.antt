use Rattle.std.proofs.Common.{◌≡◌, [], take}
use Rattle.asset_bundles.specs.Portions.{changed, new_to}
use Rattle.asset_bundles.proofs.joining.are_held.Given as goal

abbrev pub invariant-loop-item : goal.invariant-loop-item
invariant-loop-item l = [] ≡ changed (new_to l.items) (take l.item-index l.more)
