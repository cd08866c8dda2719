use Rattle.std.proofs.Common.{Some}
use Rattle.exec_rules.specs.Machine.{machine}
use Rattle.exec_holding.specs.Holding.{TakesAsset}
use Rattle.exec_assets.proofs.Joining.{fees_some, bought_joinable}
use Rattle.exec_assets.proofs.buying.buy_execution.Goals as goal

pub take_asset-requires : goal.take_asset-requires
take_asset-requires g c = record { some = fees_some c.args.fees.now c.args.limit c.requires.ready.sound }

pub hold-requires : goal.hold-requires
hold-requires g c =
    let taken : TakesAsset c.args.fees.now c.args.r.now.holding (Some c.in-Some.payment) c.take_asset.new.holding = rw c.in-Some.is at c.in_ok-payment.ensures.ok in
    record {
      joinable = bought_joinable c.law_of_readiness.ensures.done (machine c.args.r.now (g.H.Host.part c.args.h.now)) (g.H.Host.part c.buy.new.self) c.args.fees.now c.in-Limited.weight
          c.take_asset.new.holding c.in-Some.payment c.in-Ok.unspent c.requires.ready.steady taken.held taken.goods taken.left c.in-Ok.ensures.step.0 c.in-Ok.ensures.step.1 c.in-Ok.ensures.step.2;
    }
