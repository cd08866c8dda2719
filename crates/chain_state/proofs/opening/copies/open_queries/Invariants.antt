use Rattle.std.proofs.Common.{◌≡◌, ◌++◌, map, drop}
use Rattle.network_steps.specs.Genesis.{query_of}
use Rattle.chain_state.proofs.opening.copies.open_queries.Given as goal

abbrev pub invariant-loop-id : goal.invariant-loop-id
invariant-loop-id l = l.list.items ++ map (query_of l.here) (drop l.id-index l.queries) ≡ map (query_of l.here) l.queries
