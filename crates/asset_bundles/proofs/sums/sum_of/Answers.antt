use Rattle.std.proofs.Common.{sym, ◌∙◌}
use Rattle.asset_bundles.proofs.SumRows.{sum_found, sum_nowhere}
use Rattle.asset_bundles.proofs.sums.sum_of.Goals as goal

pub returns-in-Some : goal.returns-in-Some
returns-in-Some c = c.sum.ensures ∙ sum_found (c.args.id.now, c.args.kind) c.args.rows.now c.in-Some.place c.index-rows-place.result (sym c.in-Some.ensures) c.index-rows-place.is

pub returns-in-None : goal.returns-in-None
returns-in-None c = sum_nowhere (c.args.id.now, c.args.kind) c.args.rows.now (sym c.in-None.ensures)
