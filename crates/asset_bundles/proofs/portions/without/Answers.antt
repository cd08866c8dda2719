use Rattle.std.proofs.Common.{◌≡◌, arith}
use Rattle.asset_lists.specs.Units.{unit_of, amount_of}
use Rattle.asset_bundles.specs.Portions.{left_of}
use Rattle.asset_bundles.proofs.Parts.{changed_more}
use Rattle.asset_bundles.proofs.portions.without.Goals as goal

pub loop-item-preserved : goal.loop-item-preserved
loop-item-preserved c =
    let amount : c.saturating_sub-amount.result ≡ left_of c.args.taken.now (unit_of c.item-item.result) (amount_of c.item-item.result) = omega (arith, c.saturating_sub-amount.ensures, c.amount.ensures, c.held.ensures) in
    changed_more (left_of c.args.taken.now) _ c.loop-item.item-index _ _ _ _ c.loop-item-test.true c.item-item.is amount c.in_ok-push_amount.ensures c.loop-item.invariant
