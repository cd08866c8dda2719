use Rattle.std.proofs.Common.{◌∙◌, ap, min}
use Rattle.std.specs.Prelude.{map}
use Rattle.asset_bundles.specs.Books.{most_burned}
use Rattle.chain_state.specs.PartOf.{part_of}
use Rattle.supply_audit.specs.Supply.{supply_at_homes, teleports_in_flight, burned_at_homes}
use Rattle.supply_audit.proofs.Naming.{from_root}
use Rattle.supply_audit.proofs.audit.supply.Goals as goal

pub returns-clause-home : goal.returns-clause-home
returns-clause-home c =
    c.at_homes-home.ensures
    ∙ ap (λ path. min (supply_at_homes (path, c.args.kind) (map part_of c.args.chains.now)) most_burned) (from_root _ _ _ c.empty-root.ensures c.copy.ensures.same)

pub returns-clause-flight : goal.returns-clause-flight
returns-clause-flight c =
    c.at_homes-flight.ensures
    ∙ ap (λ path. min (teleports_in_flight (path, c.args.kind) (map part_of c.args.chains.now)) most_burned) (from_root _ _ _ c.empty-root.ensures c.copy.ensures.same)

pub returns-clause-burned : goal.returns-clause-burned
returns-clause-burned c =
    c.at_homes-burned.ensures
    ∙ ap (λ path. min (burned_at_homes (path, c.args.kind) (map part_of c.args.chains.now)) most_burned) (from_root _ _ _ c.empty-root.ensures c.copy.ensures.same)
