use Rattle.std.proofs.Common.{◌+◌, ap, ◌∙◌, min}
use Rattle.asset_bundles.specs.Totals.{total_value}
use Rattle.asset_bundles.specs.Books.{most_burned}
use Rattle.chain_state.proofs.AsideSums.{one_more_parked}
use Rattle.chain_state.proofs.fees.aside.parked_total.Goals as goal

pub loop-goods-preserved : goal.loop-goods-preserved
loop-goods-preserved c =
    one_more_parked c.args.id.now c.args.kind c.args.parked.now c.loop-goods.goods-index c.goods-item.result _ _ c.loop-goods-test.true c.goods-item.is
    (c.plus-sum.ensures ∙ ap (λ n. min (total_value c.loop-goods.sum + n) most_burned) c.total.ensures) c.loop-goods.invariant
