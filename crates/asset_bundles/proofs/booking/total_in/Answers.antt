use Rattle.std.proofs.Common.{sym, ap, ◌∙◌}
use Rattle.asset_bundles.specs.Totals.{total_value}
use Rattle.asset_bundles.proofs.Burning.{total_next, total_here, total_nowhere}
use Rattle.asset_bundles.proofs.booking.total_in.Goals as goal

pub returns-then-is_of : goal.returns-then-is_of
returns-then-is_of c =
    ap total_value c.total.ensures ∙ total_here _ _ _ c.loop-row.row-index _ c.loop-row-test.true c.row-item.is (sym c.is_of.ensures ∙ c.if-is_of.true) c.loop-row.invariant

pub loop-row-preserved : goal.loop-row-preserved
loop-row-preserved c =
    total_next _ _ _ c.loop-row.row-index _ c.loop-row-test.true c.row-item.is (sym c.is_of.ensures ∙ c.if-is_of.false) c.loop-row.invariant

pub returns : goal.returns
returns c = total_nowhere _ _ _ c.loop-row.row-index c.loop-row-test.false c.loop-row.invariant
