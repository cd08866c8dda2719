use Rattle.std.proofs.Common.{◌∙◌}
use Rattle.asset_bundles.proofs.SumRows.{all_listed_more}
use Rattle.asset_bundles.proofs.sums.make_rows.Goals as goal

pub loop-asset-preserved : goal.loop-asset-preserved
loop-asset-preserved c = (
  λ k. c.make_row.ensures.same k ∙ c.loop-asset.invariant.0 k,
  all_listed_more c.loop-asset.rows.items c.make_row.new.rows.items c.args.assets.now c.loop-asset.asset-index c.asset-item.result c.loop-asset-test.true c.asset-item.is
      c.make_row.ensures.kept c.loop-asset.invariant.1 c.in_ok-make_row.ensures.listed,
)
