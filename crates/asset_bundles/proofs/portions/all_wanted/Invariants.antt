use Rattle.std.proofs.Common.{◌≡◌, take}
use Rattle.asset_bundles.specs.Portions.{changed, wanted_wild}
use Rattle.asset_bundles.proofs.portions.all_wanted.Given as goal

abbrev pub invariant-loop-item : goal.invariant-loop-item
invariant-loop-item l = l.all.items ≡ changed (wanted_wild l.wild) (take l.item-index l.items)
