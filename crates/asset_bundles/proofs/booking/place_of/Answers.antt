use Rattle.std.proofs.Common.{sym, ap, ◌∙◌}
use Rattle.std.specs.Prelude.{not}
use Rattle.asset_bundles.proofs.Burning.{row_more, row_stops}
use Rattle.asset_bundles.proofs.booking.place_of.Goals as goal

pub returns-then-is_of-clause-place : goal.returns-then-is_of-clause-place
returns-then-is_of-clause-place c =
    row_stops _ _ c.loop-i.i _ c.loop-i-test.true c.index-rows-i.is (ap not (sym c.is_of.ensures ∙ c.if-is_of.true)) c.loop-i.invariant

pub loop-i-preserved : goal.loop-i-preserved
loop-i-preserved c =
    row_more _ _ c.loop-i.i _ c.loop-i-test.true c.index-rows-i.is (ap not (sym c.is_of.ensures ∙ c.if-is_of.false)) c.loop-i.invariant
