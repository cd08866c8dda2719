use Rattle.std.proofs.Common.{sym, subst}
use Rattle.weight_trader.specs.Purchases.{NameEachOnce}
use Rattle.chain_state.proofs.state.ChainState.bare.Goals as goal

pub new-requires-clause-once : goal.new-requires-clause-once
new-requires-clause-once c = subst NameEachOnce (sym c.items-5.ensures) c.requires.chain.priced_once
