use Rattle.std.proofs.Common.{◌∙◌}
use Rattle.network_coherence.proofs.Shares.{shared_there}
use Rattle.network_coherence.proofs.holdings.shares_instance.Goals as goal

pub returns-then-is_home : goal.returns-then-is_home
returns-then-is_home c =
    c.has_shared.ensures
    ∙ shared_there c.args.spec.now c.args.here.now c.args.row.now _ _ c.context_of-home.ensures c.items-accounts.ensures c.args.at.now _ c.is_home.ensures c.if-is_home.true
