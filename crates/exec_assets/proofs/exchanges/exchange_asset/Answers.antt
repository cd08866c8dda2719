use Rattle.std.proofs.Common.{◌≡◌, true, List, length, ap, sym, ◌∙◌}
use Rattle.asset_lists.specs.declared.units.Asset.{Asset}
use Rattle.exec_rules.specs.Machine.{machine}
use Rattle.exec_rules.specs.Holdings.{has_room}
use Rattle.exec_assets.proofs.Joining.{exchanged_joinable}
use Rattle.exec_assets.proofs.exchanges.exchange_asset.Goals as goal

pub hold-requires : goal.hold-requires
hold-requires g c =
    let m = machine c.args.r.now (g.H.Host.part c.args.h.now) in
    let room : has_room m (length c.args.want.now) ≡ true = ap (λ (xs : List Asset). has_room m (length xs)) (sym c.items.ensures.value) ∙ sym c.has_room.ensures ∙ c.if-not-has_room.false in
    record {
      joinable = exchanged_joinable c.law_of_readiness.ensures.done m (g.H.Host.part c.exchange.new.self) c.args.give.now c.args.want.now c.args.maximal c.take.new.self
          c.in_ok-goods.goods c.in-Ok.got c.requires.ready.steady room c.in_ok-goods.ensures.taken c.in_ok-goods.ensures.left c.in-Ok.ensures.step.0 c.in-Ok.ensures.step.1
          c.in-Ok.ensures.step.2;
    }
