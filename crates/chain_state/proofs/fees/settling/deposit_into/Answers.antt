use Rattle.chain_state.proofs.Settled.{no_zero}
use Rattle.chain_state.proofs.fees.settling.deposit_into.Goals as goal

pub of_list-goods-requires-clause-once : goal.of_list-goods-requires-clause-once
of_list-goods-requires-clause-once c = c.law_of_bundles.ensures.once c.args.coins.items c.requires.holding

pub of_list-goods-requires-clause-no_zero : goal.of_list-goods-requires-clause-no_zero
of_list-goods-requires-clause-no_zero c = no_zero c.args.coins.items c.requires.holding.positive
