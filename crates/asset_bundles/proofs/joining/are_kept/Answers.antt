use Rattle.std.proofs.Common.{[], sym, ap, ◌∙◌}
use Rattle.asset_bundles.specs.Portions.{changed, above_by}
use Rattle.asset_bundles.proofs.Parts.{kept_none, changed_more}
use Rattle.asset_bundles.proofs.SumFacts.{take_whole}
use Rattle.asset_bundles.proofs.joining.are_kept.Goals as goal

pub loop-item-preserved : goal.loop-item-preserved
loop-item-preserved c =
    changed_more (above_by c.args.more.now) _ c.loop-item.item-index _ _ [] [] c.loop-item-test.true c.item-item.is c.amount_above.ensures
    (kept_none _ _ [] c.if-amount_above-ne0.false) c.loop-item.invariant

pub returns : goal.returns
returns c = λ _. sym (c.loop-item.invariant ∙ ap (changed (above_by c.args.more.now)) (take_whole c.loop-item.item-index c.args.items.now c.loop-item-test.false))
