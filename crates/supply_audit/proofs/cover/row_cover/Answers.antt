use Rattle.std.proofs.Common.{sym, map}
use Rattle.chain_state.specs.PartOf.{part_of}
use Rattle.supply_audit.specs.Places.{chain_table}
use Rattle.supply_audit.proofs.Indexed.{own_places}
use Rattle.supply_audit.proofs.cover.row_cover.Goals as goal

pub covering-requires-clause-kept : goal.covering-requires-clause-kept
covering-requires-clause-kept c =
    own_places c.args.index.now.places.entries (map chain_table (map part_of c.args.chains.now)) c.number_of-other.result (chain_table (part_of c.in-Some.there.now))
    c.requires.index (sym c.in-Some.ensures)
