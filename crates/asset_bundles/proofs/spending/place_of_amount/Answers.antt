use Rattle.std.proofs.Common.{sym, ap, ◌∙◌}
use Rattle.std.specs.Prelude.{not, None}
use Rattle.asset_bundles.proofs.Giving.{place_more, place_stops}
use Rattle.asset_bundles.proofs.spending.place_of_amount.Goals as goal

pub returns-then-is_amount_of-clause-place : goal.returns-then-is_amount_of-clause-place
returns-then-is_amount_of-clause-place c =
    place_stops (c.args.id.now, None) _ c.loop-i.i _ c.loop-i-test.true c.index-items-i.is (ap not (sym c.is_amount_of.ensures ∙ c.if-is_amount_of.true)) c.loop-i.invariant

pub loop-i-preserved : goal.loop-i-preserved
loop-i-preserved c =
    place_more (c.args.id.now, None) _ c.loop-i.i _ c.loop-i-test.true c.index-items-i.is (ap not (sym c.is_amount_of.ensures ∙ c.if-is_amount_of.false)) c.loop-i.invariant
