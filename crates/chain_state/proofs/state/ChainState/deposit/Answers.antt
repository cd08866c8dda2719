use Rattle.trust_tables.specs.Accounts.{account_of}
use Rattle.chain_state.proofs.Transacted.{deposit, rows_listed, floors_moved_in, listing_moved_in}
use Rattle.chain_state.proofs.state.ChainState.deposit.Goals as goal

pub deposit_all-requires-clause-listed : goal.deposit_all-requires-clause-listed
deposit_all-requires-clause-listed c = rows_listed c.args.self.now c.transactors_of-movers.ensures

pub invariant_of-self-clause-floors : goal.invariant_of-self-clause-floors
invariant_of-self-clause-floors c =
    let f = c.args.self.now in
    let goods = c.args.goods in
    let who = c.args.who.now in
    floors_moved_in f c.transactors_of-movers.ensures (deposit goods (account_of who)) goods c.deposit_all.result c.deposit_all.new.ledger c.deposit_all.ensures.step
    (λ rows site floors free. c.law_of_floors_of_moves.ensures.deposited floors f.ledger goods (account_of who site))

pub invariant_of-self-clause-ledger_lists : goal.invariant_of-self-clause-ledger_lists
invariant_of-self-clause-ledger_lists c =
    listing_moved_in c.args.self.now c.transactors_of-movers.ensures (deposit c.args.goods (account_of c.args.who.now)) c.args.goods c.deposit_all.result c.deposit_all.new.ledger c.deposit_all.ensures.step
