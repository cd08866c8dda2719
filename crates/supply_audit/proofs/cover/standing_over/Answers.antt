use Rattle.std.proofs.Common.{◌∙◌, ◌+◌, map, min}
use Rattle.std.specs.Prelude.{Some}
use Rattle.asset_bundles.specs.Books.{most_burned}
use Rattle.chain_state.specs.PartOf.{part_of}
use Rattle.supply_audit.specs.declared.figures.Carried.TheVariants.{Withdrawals}
use Rattle.supply_audit.specs.declared.figures.Figure.TheVariants.{Placed, Sent}
use Rattle.supply_audit.specs.RowPlaces.{over_places}
use Rattle.supply_audit.proofs.Saturating.{both}
use Rattle.supply_audit.proofs.cover.standing_over.Goals as goal

pub returns-clause-standing : goal.returns-clause-standing
returns-clause-standing c =
    let parts = map part_of c.args.chains.now in
    let placed = over_places Placed parts c.args.own.now in
    let leaving = over_places (Sent Withdrawals (Some c.args.there)) parts c.args.own.now in
    c.sum.ensures ∙ (λ i. min (c.over_places-placed.ensures i + c.in_ok-leaving.ensures.sent i) most_burned) ∙ both placed leaving most_burned
