use Rattle.std.proofs.Common.{◌∙◌}
use Rattle.trust_tables.specs.Chains.{path_of_site}
use Rattle.network_steps.specs.Tests.{have_paths}
use Rattle.chain_state.specs.Known.{paths_there}
use Rattle.report_text.proofs.backings.plan_chain.Goals as goal

pub plan_rows-requires-clause-paths : goal.plan_rows-requires-clause-paths
plan_rows-requires-clause-paths c = (λ i. have_paths (path_of_site (c.site.ensures i)) (c.rows.ensures i)) ∙ paths_there c.args.chain.now
