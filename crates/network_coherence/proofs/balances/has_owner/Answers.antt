use Rattle.std.proofs.Common.{◌∙◌}
use Rattle.locations.specs.Chains.{path_of}
use Rattle.asset_lists.specs.Units.{instance_in}
use Rattle.law_coherence.specs.UniversalAssets.{just}
use Rattle.network_coherence.proofs.Totals.{owner_there}
use Rattle.network_coherence.proofs.balances.has_owner.Goals as goal

pub returns : goal.returns
returns c =
    c.has_unit.ensures
    ∙ owner_there c.args.spec.now c.args.at.now (path_of c.args.home.now c.args.row.now.id, c.args.row.now.kind) (just (instance_in c.args.fun.now)) _ _ c.context_of-context.ensures c.items.ensures
