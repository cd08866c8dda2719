use Rattle.asset_bundles.specs.Portions.{wanted_wild}
use Rattle.asset_bundles.proofs.Parts.{changed_more}
use Rattle.asset_bundles.proofs.portions.all_wanted.Goals as goal

pub loop-item-preserved : goal.loop-item-preserved
loop-item-preserved c =
    changed_more (wanted_wild c.args.wild.now) _ c.loop-item.item-index _ _ _ _ c.loop-item-test.true c.item-item.is c.wanted.ensures c.in_ok-push_amount.ensures c.loop-item.invariant
