use Rattle.std.proofs.Common.{◌≡◌, arith}
use Rattle.asset_lists.specs.Units.{unit_of, amount_of}
use Rattle.asset_bundles.specs.Portions.{common_with}
use Rattle.asset_bundles.proofs.Parts.{changed_more}
use Rattle.asset_bundles.proofs.portions.common.Goals as goal

pub loop-item-preserved : goal.loop-item-preserved
loop-item-preserved c =
    let amount : c.min-amount.result ≡ common_with c.args.asked.now (unit_of c.item-item.result) (amount_of c.item-item.result) = omega (arith, c.min-amount.ensures, c.amount.ensures, c.held.ensures) in
    changed_more (common_with c.args.asked.now) _ c.loop-item.item-index _ _ _ _ c.loop-item-test.true c.item-item.is amount c.in_ok-push_amount.ensures c.loop-item.invariant
