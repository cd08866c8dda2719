use Rattle.std.proofs.Common.{◌≡◌, sym, ap, subst, ◌∙◌}
use Rattle.asset_bundles.specs.Bundles.{bundle_of}
use Rattle.asset_bundles.specs.Landing.{Renamed, StayApart}
use Rattle.asset_bundles.proofs.Naming.{landed_holding, landed_is}
use Rattle.asset_bundles.proofs.shipment.Shipment.land.Goals as goal

pub invariant_of-result : goal.invariant_of-result
invariant_of-result c =
    let units : bundle_of c.items.inside.items.items ≡ c.args.self.units = c.items.view_is ∙ c.take_up.ensures in
    landed_holding c.args.target.now c.args.context.now c.items.inside.items.items _ _ c.items.invariant (subst (StayApart c.args.target.now c.args.context.now) (sym units) c.requires)
    c.rename_all.ensures c.sort_unstable.ensures.permutation c.sort_unstable.ensures.sorted

pub returns : goal.returns
returns c =
    landed_is c.args.target.now c.args.context.now c.items.inside.items.items _ _ c.items.invariant c.rename_all.ensures c.sort_unstable.ensures.permutation
    ∙ ap (Renamed c.args.target.now c.args.context.now) (c.items.view_is ∙ c.take_up.ensures)
