use Rattle.std.proofs.Common.{[], sym, ap, ◌∙◌}
use Rattle.asset_bundles.specs.Portions.{changed, new_to}
use Rattle.asset_bundles.proofs.Parts.{kept_none, changed_more}
use Rattle.asset_bundles.proofs.SumFacts.{take_whole}
use Rattle.asset_bundles.proofs.joining.are_held.Goals as goal

pub loop-item-preserved : goal.loop-item-preserved
loop-item-preserved c =
    changed_more (new_to c.args.items.now) _ c.loop-item.item-index _ _ [] [] c.loop-item-test.true c.item-item.is c.new_amount.ensures
    (kept_none _ _ [] c.if-new_amount-ne0.false) c.loop-item.invariant

pub returns : goal.returns
returns c = λ _. sym (c.loop-item.invariant ∙ ap (changed (new_to c.args.items.now)) (take_whole c.loop-item.item-index c.args.more.now c.loop-item-test.false))
