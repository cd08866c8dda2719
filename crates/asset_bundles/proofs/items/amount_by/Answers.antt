use Rattle.std.proofs.Common.{sym, ◌∙◌, None}
use Rattle.asset_bundles.proofs.Finding.{found_next, found_here, found_nowhere}
use Rattle.asset_bundles.proofs.items.amount_by.Goals as goal

pub returns-then-is_amount_by : goal.returns-then-is_amount_by
returns-then-is_amount_by c =
    c.amount.ensures ∙ found_here (c.args.id.now, None) _ c.loop-item.item-index _ c.loop-item-test.true c.item-item.is (sym c.is_amount_by.ensures ∙ c.if-is_amount_by.true) c.loop-item.invariant

pub loop-item-preserved : goal.loop-item-preserved
loop-item-preserved c =
    found_next (c.args.id.now, None) _ c.loop-item.item-index _ c.loop-item-test.true c.item-item.is (sym c.is_amount_by.ensures ∙ c.if-is_amount_by.false) c.loop-item.invariant

pub returns : goal.returns
returns c = found_nowhere (c.args.id.now, None) _ c.loop-item.item-index c.loop-item-test.false c.loop-item.invariant
