use Rattle.std.proofs.Common.{◌∙◌, arith}
use Rattle.asset_bundles.specs.Sums.{settled_sum_row}
use Rattle.asset_bundles.proofs.Mapped.{one_more, all_mapped}
use Rattle.asset_bundles.proofs.sums.settle_all.Goals as goal

pub loop-row-preserved : goal.loop-row-preserved
loop-row-preserved c =
    one_more (settled_sum_row c.args.goods.now c.args.traps.now) c.args.rows.now c.loop-row.rows c.loop-row.row-index c.row-item.result c.settle.new.self (omega (arith, c.loop-row-test.true)) c.loop-row.invariant c.settle.ensures

pub returns : goal.returns
returns c = c.loop-row.invariant ∙ all_mapped (settled_sum_row c.args.goods.now c.args.traps.now) c.args.rows.now c.loop-row.row-index (omega (arith, c.loop-row-test.false))
