use Rattle.std.proofs.Common.{◌≡◌, take, drop, []}
use Rattle.std.specs.List.{list_any}
use Rattle.document_entries.specs.declared.fault.Section.TheVariants.{Queries}
use Rattle.network_config.specs.References.{each_in, query_flaws}
use Rattle.network_config.specs.Queries.{QueryKey, is_asked}
use Rattle.network_config.proofs.Asking.{of_query}
use Rattle.network_config.proofs.queries.check_queries.Given as goal

abbrev pub invariant-loop-query : goal.invariant-loop-query
invariant-loop-query l = record {
  entries : each_in (query_flaws l.chains l.fn.here) l.fn.chain Queries 0 [] l.queries ≡ each_in (query_flaws l.chains l.fn.here) l.fn.chain Queries l.index (take l.query-index l.queries) (drop l.query-index l.queries);
  asked : (q : QueryKey) → is_asked l.asked.keys q ≡ list_any (of_query q) (take l.query-index l.queries);
}
