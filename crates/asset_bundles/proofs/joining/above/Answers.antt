use Rattle.std.proofs.Common.{ap, ◌∙◌}
use Rattle.asset_bundles.specs.Portions.{changed, above_by}
use Rattle.asset_bundles.proofs.Parts.{changed_more}
use Rattle.asset_bundles.proofs.SumFacts.{is_above, take_whole}
use Rattle.asset_bundles.proofs.joining.above.Goals as goal

pub loop-item-preserved : goal.loop-item-preserved
loop-item-preserved c =
    changed_more (above_by c.args.more.now) _ c.loop-item.item-index _ _ _ _ c.loop-item-test.true c.item-item.is c.amount_above.ensures c.in_ok-push_amount.ensures c.loop-item.invariant

pub returns : goal.returns
returns c =
    is_above c.args.items.now c.args.more.now _ c.requires.items c.requires.more c.requires.within
    (c.loop-item.invariant ∙ ap (changed (above_by c.args.more.now)) (take_whole c.loop-item.item-index c.args.items.now c.loop-item-test.false))
