use Rattle.std.proofs.Common.{sym}
use Rattle.asset_pools.proofs.Lemmas.Keeping.{no_exchange}
use Rattle.asset_pools.proofs.exchanges.exchange_with.Goals as goal

pub returns-then-fee-ge1000 : goal.returns-then-fee-ge1000
returns-then-fee-ge1000 c =
    sym (no_exchange c.args.ledger.now.held (c.args.give.0.now, c.args.give.1) (c.args.want.0.now, c.args.want.1) c.args.maximal c.args.place c.args.pool.now c.if-fee-ge1000.true)
