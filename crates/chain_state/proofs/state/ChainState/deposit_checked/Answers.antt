use Rattle.std.proofs.Common.{sym, ◌∙◌}
use Rattle.chain_state.proofs.Transacted.{deposit, rows_listed, fault_is, floors_checked, listing_checked}
use Rattle.chain_state.proofs.state.ChainState.deposit_checked.Goals as goal

pub deposit_checked-requires-clause-listed : goal.deposit_checked-requires-clause-listed
deposit_checked-requires-clause-listed c = rows_listed c.args.self.now c.transactors_of-movers.ensures

pub deposit_checked-requires-clause-free : goal.deposit_checked-requires-clause-free
deposit_checked-requires-clause-free c = sym (fault_is c.args.self.now c.transactors_of-movers.ensures (deposit c.args.goods (λ site. c.args.account))) ∙ c.requires.free

pub invariant_of-self-clause-floors : goal.invariant_of-self-clause-floors
invariant_of-self-clause-floors c =
    let f = c.args.self.now in
    let goods = c.args.goods in
    let move = deposit goods (λ site. c.args.account) in
    let free = sym (fault_is f c.transactors_of-movers.ensures move) ∙ c.requires.free in
    floors_checked f c.transactors_of-movers.ensures move c.deposit_checked.result c.deposit_checked.new.ledger c.deposit_checked.ensures.deposited c.deposit_checked.ensures.kept
    (λ rows site floors none. c.law_of_floors_of_moves.ensures.deposited floors f.ledger goods c.args.account) free

pub invariant_of-self-clause-ledger_lists : goal.invariant_of-self-clause-ledger_lists
invariant_of-self-clause-ledger_lists c =
    listing_checked c.args.self.now c.transactors_of-movers.ensures (deposit c.args.goods (λ site. c.args.account))
    c.deposit_checked.result c.deposit_checked.new.ledger c.deposit_checked.ensures.deposited c.deposit_checked.ensures.kept
