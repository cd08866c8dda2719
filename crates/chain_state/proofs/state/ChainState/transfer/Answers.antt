use Rattle.trust_tables.specs.Accounts.{account_of}
use Rattle.exec_base.specs.Host.{transfer_refusal, transferred}
use Rattle.chain_state.specs.PartOf.{part_of}
use Rattle.chain_state.proofs.Transacted.{transfer, accepted, refused, floors_moved, listing_moved}
use Rattle.chain_state.proofs.state.ChainState.transfer.Goals as goal

pub returns-in-Ok : goal.returns-in-Ok
returns-in-Ok c =
    let f = c.args.self.now in
    let p = part_of f in
    let list = c.args.list.now in
    let from = c.args.from.now in
    let to = c.args.to.now in
    let law = c.law_of_transactors.ensures in
    record {
      step = accepted f c.transactors_of-movers.ensures (transfer list (account_of from) (account_of to)) (transfer_refusal p list from to) (law.transfer p list from to) (transferred p list from to) (law.transferred p list from to)
          (tt {0}) c.transfer_all.new.ledger tt c.in-Ok.ensures.step;
    }

pub returns-in-Err : goal.returns-in-Err
returns-in-Err c =
    let f = c.args.self.now in
    let p = part_of f in
    let list = c.args.list.now in
    let from = c.args.from.now in
    let to = c.args.to.now in
    let law = c.law_of_transactors.ensures in
    record {
      step = refused f c.transactors_of-movers.ensures (transfer list (account_of from) (account_of to)) (transfer_refusal p list from to) (law.transfer p list from to) (transferred p list from to) (law.transferred p list from to)
          (tt {0}) c.transfer_all.new.ledger c.in-Err.fault c.fault_of.result c.fault_of.ensures c.in-Err.ensures.step;
    }

pub invariant_of-self-clause-floors : goal.invariant_of-self-clause-floors
invariant_of-self-clause-floors c =
    let f = c.args.self.now in
    let list = c.args.list.now in
    let from = c.args.from.now in
    let to = c.args.to.now in
    let once = c.law_of_bundles.ensures.from_lists list c.items-items.ensures.list in
    floors_moved f c.transactors_of-movers.ensures (transfer list (account_of from) (account_of to)) tt c.transfer_all.result c.transfer_all.new.ledger c.transfer_all.ensures.step
    (λ rows site floors. c.law_of_floors_of_moves.ensures.transferred rows floors f.ledger list (account_of from site) (account_of to site) once)

pub invariant_of-self-clause-ledger_lists : goal.invariant_of-self-clause-ledger_lists
invariant_of-self-clause-ledger_lists c =
    listing_moved c.args.self.now c.transactors_of-movers.ensures (transfer c.args.list.now (account_of c.args.from.now) (account_of c.args.to.now)) tt c.transfer_all.result c.transfer_all.new.ledger c.transfer_all.ensures.step
