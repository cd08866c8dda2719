use Rattle.std.proofs.Common.{◌∙◌, min, ap, sym}
use Rattle.asset_lists.specs.declared.units.AssetId.{AssetId}
use Rattle.asset_lists.specs.declared.units.AssetId.TheVariants.{Concrete}
use Rattle.asset_bundles.specs.Books.{most_burned}
use Rattle.chain_state.specs.PartOf.{part_of}
use Rattle.supply_audit.specs.declared.figures.Figure.{Figure}
use Rattle.supply_audit.specs.Places.{figure, placed}
use Rattle.supply_audit.proofs.places.figure.Goals as goal

pub returns-in-Placed : goal.returns-in-Placed
returns-in-Placed c =
    let p = part_of c.args.chain.now in
    c.placed.ensures
    ∙ ap (λ (id : AssetId). min (placed p id c.args.kind) most_burned) c.assign_place.ensures
    ∙ ap (λ (which : Figure). min (figure which p (Concrete c.args.id.now) c.args.kind) most_burned) (sym c.in-Placed.is)
