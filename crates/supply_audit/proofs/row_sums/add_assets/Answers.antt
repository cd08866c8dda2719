use Rattle.std.proofs.Common.{◌+◌, take}
use Rattle.std.specs.Prelude.{sum_by}
use Rattle.supply_audit.specs.Places.{list_share}
use Rattle.supply_audit.proofs.Found.{rise_twice}
use Rattle.supply_audit.proofs.Tables.{sum_more}
use Rattle.supply_audit.proofs.row_sums.add_assets.Goals as goal

pub loop-asset-preserved : goal.loop-asset-preserved
loop-asset-preserved c =
    let assets = c.args.assets.now in
    let i = c.loop-asset.asset-index in
    record {
      sums = c.add_asset.ensures.sums;
      rise = rise_twice c.args.ledger.now.listed c.args.sums.now c.loop-asset.sums c.add_asset.new.sums
          (λ k. sum_by (list_share k.0 k.1) (take i assets)) (λ k. list_share k.0 k.1 c.asset-item.result) (λ k. sum_by (list_share k.0 k.1) (take (i + 1) assets))
          (λ k. sum_more (list_share k.0 k.1) assets i c.asset-item.result c.loop-asset-test.true c.asset-item.is)
          c.loop-asset.invariant.rise c.add_asset.ensures.rise;
    }
