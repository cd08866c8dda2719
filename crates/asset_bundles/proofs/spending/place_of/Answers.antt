use Rattle.std.proofs.Common.{sym, ap, ◌∙◌}
use Rattle.std.specs.Prelude.{not}
use Rattle.asset_bundles.proofs.Giving.{place_more, place_stops}
use Rattle.asset_bundles.proofs.spending.place_of.Goals as goal

pub returns-then-is_same_unit-clause-place : goal.returns-then-is_same_unit-clause-place
returns-then-is_same_unit-clause-place c =
    place_stops _ _ c.loop-i.i _ c.loop-i-test.true c.index-items-i.is (ap not (sym c.is_same_unit.ensures ∙ c.if-is_same_unit.true)) c.loop-i.invariant

pub loop-i-preserved : goal.loop-i-preserved
loop-i-preserved c =
    place_more _ _ c.loop-i.i _ c.loop-i-test.true c.index-items-i.is (ap not (sym c.is_same_unit.ensures ∙ c.if-is_same_unit.false)) c.loop-i.invariant
