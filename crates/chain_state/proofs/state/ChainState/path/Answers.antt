use Rattle.std.proofs.Common.{subst}
use Rattle.locations.specs.Chains.{IsPathFault}
use Rattle.trust_tables.specs.Chains.{path_of_site}
use Rattle.chain_state.proofs.BurnedLines.{listed_path, no_fault, same_place, not_bytes}
use Rattle.chain_state.specs.Known.{paths_there}
use Rattle.chain_state.proofs.state.ChainState.path.Goals as goal

pub unreachable-requires : goal.unreachable-requires
unreachable-requires c =
    let f = c.args.self.now in
    let row = listed_path (path_of_site f.settings.site) f.settings.rows c.args.asset.now (paths_there f) c.requires in
    not_bytes c.args.asset.now.id row.0.id c.in_default.field-0 row.1 c.in_default.is

pub unreachable-requires-in-Err : goal.unreachable-requires-in-Err
unreachable-requires-in-Err c =
    let f = c.args.self.now in
    let row = listed_path (path_of_site f.settings.site) f.settings.rows c.args.asset.now (paths_there f) c.requires in
    no_fault (path_of_site f.settings.site) row.0 c.in-Concrete.place c.in-Err.field-0 row.2 (same_place c.args.asset.now.id c.in-Concrete.place row.0.id c.in-Concrete.is row.1)
    (subst (λ context. IsPathFault context c.in-Concrete.place c.in-Err.field-0) c.path.ensures c.in-Err.ensures)
