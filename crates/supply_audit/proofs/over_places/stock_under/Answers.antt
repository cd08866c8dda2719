use Rattle.std.proofs.Common.{◌∙◌, min, ap}
use Rattle.asset_lists.specs.declared.units.AssetId.{AssetId}
use Rattle.asset_bundles.specs.Books.{most_burned}
use Rattle.chain_state.specs.PartOf.{part_of}
use Rattle.supply_audit.specs.Places.{placed}
use Rattle.supply_audit.proofs.over_places.stock_under.Goals as goal

pub returns-clause-home : goal.returns-clause-home
returns-clause-home c =
    let p = part_of c.args.chain.now in
    c.placed-home.ensures ∙ ap (λ (id : AssetId). min (placed p id c.args.kind) most_burned) c.assign_place.ensures
