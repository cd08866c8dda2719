use Rattle.std.proofs.Common.{◌∙◌}
use Rattle.locations.specs.Chains.{path_of}
use Rattle.law_coherence.specs.UniversalAssets.{every}
use Rattle.network_coherence.proofs.Totals.{amount_for_there}
use Rattle.network_coherence.proofs.balances.amount_for.Goals as goal

pub returns : goal.returns
returns c =
    c.sum_of.ensures
    ∙ amount_for_there c.args.spec.now c.args.at.now (path_of c.args.home.now c.args.row.now.id, c.args.row.now.kind) every c.args.chain _ _ _ c.sovereign_account-who.ensures c.context_of-context.ensures c.items.ensures
