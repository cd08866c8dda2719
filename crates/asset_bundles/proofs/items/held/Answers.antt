use Rattle.std.proofs.Common.{sym, ◌∙◌}
use Rattle.asset_bundles.proofs.Finding.{found_next, found_here, found_nowhere}
use Rattle.asset_bundles.proofs.items.held.Goals as goal

pub returns-then-is_same_unit : goal.returns-then-is_same_unit
returns-then-is_same_unit c =
    c.amount.ensures ∙ found_here _ _ c.loop-item.item-index _ c.loop-item-test.true c.item-item.is (sym c.is_same_unit.ensures ∙ c.if-is_same_unit.true) c.loop-item.invariant

pub loop-item-preserved : goal.loop-item-preserved
loop-item-preserved c =
    found_next _ _ c.loop-item.item-index _ c.loop-item-test.true c.item-item.is (sym c.is_same_unit.ensures ∙ c.if-is_same_unit.false) c.loop-item.invariant

pub returns : goal.returns
returns c = found_nowhere _ _ c.loop-item.item-index c.loop-item-test.false c.loop-item.invariant
