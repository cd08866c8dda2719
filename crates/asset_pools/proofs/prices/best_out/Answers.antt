use Rattle.std.proofs.Common.{◌<◌, arith}
use Rattle.asset_pools.specs.Pools.{out}
use Rattle.asset_pools.proofs.Lemmas.Products.{out_below, product_kept}
use Rattle.asset_pools.proofs.prices.best_out.Goals as goal

pub returns-clause-kept : goal.returns-clause-kept
returns-clause-kept c =
    let below : out c.args.x c.args.y c.from-g.result c.args.a < c.args.y = out_below _ _ _ _ (omega arith) (omega arith) in
    product_kept c.args.x c.args.y c.from-g.result c.args.a _ (omega arith) (omega arith) (omega (arith, below)) (omega arith)
