use Rattle.std.proofs.Common.{List, sym, subst, ℕ, ◌≤◌, ◌<◌, ◌+◌, ◌^◌, ◌-◌, arith}
use Rattle.amounts.specs.Amounts.{amount}
use Rattle.asset_pools.specs.Exchanges.{coin, exchange_of}
use Rattle.asset_pools.proofs.Goods.{is_offer, made_of, says_made}
use Rattle.asset_pools.proofs.making.exchange.Goals as goal

pub exchanged-requires : goal.exchanged-requires
exchanged-requires c = record {
  offer = is_offer c.args.pools.now c.args.ledger.now.held c.args.give c.args.want.now c.args.maximal c.in-Some.exchange (made_of c.args.pools.now c.args.ledger.now.held c.args.give c.items.result.now c.args.want.now c.args.maximal c.exchange_of.result c.in-Some.exchange c.items.ensures.listed c.exchange_of.ensures c.in-Some.is);
}

pub exchange-requires-clause-some : goal.exchange-requires-clause-some
exchange-requires-clause-some c = (says_made c.args.pools.now c.args.ledger.now.held c.args.give c.items.result.now c.args.want.now c.args.maximal c.exchange_of.result c.in-Some.exchange c.items.ensures.listed c.exchange_of.ensures c.in-Some.is).some

pub exchange-requires-clause-enough : goal.exchange-requires-clause-enough
exchange-requires-clause-enough c =
    let less = (says_made c.args.pools.now c.args.ledger.now.held c.args.give c.items.result.now c.args.want.now c.args.maximal c.exchange_of.result c.in-Some.exchange c.items.ensures.listed c.exchange_of.ensures c.in-Some.is).left in
    subst (λ (account : List ℕ). c.in-Some.exchange.deal.to_holding ≤ amount c.args.ledger.now.held (account, coin c.in-Some.exchange.wanted)) (sym c.pool_account.ensures) (omega (arith, less))

pub exchange-requires-clause-there : goal.exchange-requires-clause-there
exchange-requires-clause-there c =
    subst (λ (account : List ℕ). 0 < amount c.args.ledger.now.held (account, coin c.in-Some.exchange.given)) (sym c.pool_account.ensures)
    (says_made c.args.pools.now c.args.ledger.now.held c.args.give c.items.result.now c.args.want.now c.args.maximal c.exchange_of.result c.in-Some.exchange c.items.ensures.listed c.exchange_of.ensures c.in-Some.is).there

pub exchange-requires-clause-room : goal.exchange-requires-clause-room
exchange-requires-clause-room c =
    let below = (says_made c.args.pools.now c.args.ledger.now.held c.args.give c.items.result.now c.args.want.now c.args.maximal c.exchange_of.result c.in-Some.exchange c.items.ensures.listed c.exchange_of.ensures c.in-Some.is).first_end in
    subst (λ (account : List ℕ). amount c.args.ledger.now.held (account, coin c.in-Some.exchange.given) + c.in-Some.exchange.deal.to_pool ≤ 2 ^ 128 - 1) (sym c.pool_account.ensures) (omega (arith, below))
