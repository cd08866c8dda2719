use Rattle.asset_bundles.specs.Portions.{new_to}
use Rattle.asset_bundles.proofs.Parts.{changed_behind}
use Rattle.asset_bundles.proofs.joining.push_new.Goals as goal

pub loop-item-preserved : goal.loop-item-preserved
loop-item-preserved c =
    changed_behind (new_to c.args.items.now) _ _ c.loop-item.item-index _ _ _ _ c.loop-item-test.true c.item-item.is c.new_amount.ensures c.in_ok-push_amount.ensures c.loop-item.invariant
