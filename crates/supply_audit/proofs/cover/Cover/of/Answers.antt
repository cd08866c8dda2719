use Rattle.std.proofs.Common.{sym, map}
use Rattle.chain_state.specs.PartOf.{part_of}
use Rattle.supply_audit.specs.Places.{chain_table}
use Rattle.supply_audit.proofs.Indexed.{own_places}
use Rattle.supply_audit.proofs.cover.Cover.of.Goals as goal

pub place_cover-requires-clause-own : goal.place_cover-requires-clause-own
place_cover-requires-clause-own c =
    own_places c.args.index.now.places.entries (map chain_table (map part_of c.args.chains.now)) c.number_of-number.result (chain_table (part_of c.in-Some.here.now))
    c.requires (sym c.in-Some.ensures)
