use Rattle.std.proofs.Common.{◌≡◌, true, List, length, ap, sym, ◌∙◌}
use Rattle.asset_lists.specs.declared.units.Asset.{Asset}
use Rattle.exec_rules.specs.Machine.{machine}
use Rattle.exec_rules.specs.Holdings.{has_room}
use Rattle.exec_assets.proofs.Joining.{claimed_joinable}
use Rattle.exec_assets.proofs.arriving.claim_asset.Goals as goal

pub hold-requires : goal.hold-requires
hold-requires g c =
    let m = machine c.args.r.now (g.H.Host.part c.args.h.now) in
    let room : has_room m (length c.args.assets.now) ≡ true = ap (λ (xs : List Asset). has_room m (length xs)) (sym c.items.ensures.value) ∙ sym c.has_room.ensures ∙ c.if-not-has_room.false in
    record {
      joinable = claimed_joinable c.law_of_readiness.ensures.done m (g.H.Host.part c.claim.new.self) c.args.assets.now c.args.ticket.now c.in-Some.who c.in-Ok.goods c.requires.ready.steady
          c.in-Some.is room (sym c.is_ticket.ensures ∙ c.if-not-is_ticket.false) c.in-Ok.ensures.step.0 c.in-Ok.ensures.step.1 c.in-Ok.ensures.step.2;
    }
