use Rattle.std.proofs.Common.{◌≡◌, ◌∙◌, length, arith}
use Rattle.std.proofs.lemmas.Result.{err_from_is_err_and}
use Rattle.document_entries.specs.declared.fault.Section.TheVariants.{Queries}
use Rattle.document_entries.specs.Forms.{next_index}
use Rattle.network_config.specs.References.{query_flaws}
use Rattle.network_config.proofs.Checking.{all_checked}
use Rattle.network_config.proofs.Asking.{query_refused, query_checked, query_added}
use Rattle.network_config.proofs.queries.check_queries.Goals as goal

pub returns-in_err-add_query : goal.returns-in_err-add_query
returns-in_err-add_query c =
    let p = err_from_is_err_and c.from_residual.result c.from_residual.ensures.1 in
    rw (p.1, p.2) (query_refused c.args.chains.now c.args.here c.args.chain c.args.queries.now c.loop-query.query-index c.loop-query.index _ c.loop-query.asked.keys c.loop-query-test.true c.loop-query.invariant.entries c.loop-query.invariant.asked
    c.in_err-add_query.field-0.0 c.in_err-add_query.ensures.flaws)

pub loop-query-preserved : goal.loop-query-preserved
loop-query-preserved c =
    let index : c.saturating_add-index.result ≡ next_index c.loop-query.index = c.saturating_add-index.ensures in
    record {
      entries = rw index (query_checked c.args.chains.now c.args.here c.args.chain c.args.queries.now c.loop-query.query-index c.loop-query.index _ c.loop-query.asked.keys c.loop-query-test.true c.loop-query.invariant.entries
          c.loop-query.invariant.asked c.in_ok-add_query.ensures.flaws);
      asked = query_added c.args.chains.now c.args.here c.args.chain c.args.queries.now c.loop-query.query-index c.loop-query.index _ c.loop-query.asked.keys c.loop-query-test.true c.loop-query.invariant.entries c.loop-query.invariant.asked
          c.add_query.new.asked.keys c.in_ok-add_query.ensures.added;
    }

pub returns : goal.returns
returns c =
    let all : length c.args.queries.now ≡ c.loop-query.query-index = omega arith in
    c.loop-query.invariant.entries ∙ all_checked (query_flaws c.args.chains.now c.args.here) c.args.chain Queries c.args.queries.now c.loop-query.query-index c.loop-query.index _ all
