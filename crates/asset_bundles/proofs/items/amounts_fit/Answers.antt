use Rattle.asset_bundles.proofs.SumFacts.{is_most, most_more}
use Rattle.asset_bundles.proofs.items.amounts_fit.Goals as goal

pub loop-item-preserved : goal.loop-item-preserved
loop-item-preserved c =
    most_more _ c.loop-item.item-index _ c.loop-item-test.true c.item-item.is (is_most c.item-item.result _ c.amount-amount.type_inv c.amount-amount.ensures) c.loop-item.invariant
