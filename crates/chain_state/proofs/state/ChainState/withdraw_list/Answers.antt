use Rattle.asset_bundles.specs.Bundles.{bundle_of}
use Rattle.trust_tables.specs.Accounts.{account_of}
use Rattle.exec_base.specs.Host.{given, withdraw_refusal}
use Rattle.chain_state.specs.PartOf.{part_of}
use Rattle.chain_state.proofs.Transacted.{withdrawal, accepted, refused, floors_moved, listing_moved}
use Rattle.chain_state.proofs.state.ChainState.withdraw_list.Goals as goal

pub returns-in-Ok : goal.returns-in-Ok
returns-in-Ok c =
    let f = c.args.self.now in
    let p = part_of f in
    let list = c.args.list.now in
    let who = c.args.who.now in
    let law = c.law_of_transactors.ensures in
    accepted f c.transactors_of-movers.ensures (withdrawal list (account_of who)) (withdraw_refusal p list who) (law.withdraw p list who) (given p list who) (law.withdrawn p list who)
    (bundle_of list) c.withdraw_all.new.ledger c.in-Ok.goods c.in-Ok.ensures.step

pub returns-in-Err : goal.returns-in-Err
returns-in-Err c =
    let f = c.args.self.now in
    let p = part_of f in
    let list = c.args.list.now in
    let who = c.args.who.now in
    let law = c.law_of_transactors.ensures in
    refused f c.transactors_of-movers.ensures (withdrawal list (account_of who)) (withdraw_refusal p list who) (law.withdraw p list who) (given p list who) (law.withdrawn p list who)
    (bundle_of list) c.withdraw_all.new.ledger c.in-Err.fault c.fault_of.result c.fault_of.ensures c.in-Err.ensures.step

pub invariant_of-self-clause-floors : goal.invariant_of-self-clause-floors
invariant_of-self-clause-floors c =
    let f = c.args.self.now in
    let list = c.args.list.now in
    let who = c.args.who.now in
    let once = c.law_of_bundles.ensures.from_lists list c.items-items.ensures.list in
    floors_moved f c.transactors_of-movers.ensures (withdrawal list (account_of who)) (bundle_of list) c.withdraw_all.result c.withdraw_all.new.ledger c.withdraw_all.ensures.step
    (λ rows site floors. c.law_of_floors_of_moves.ensures.withdrawn rows floors f.ledger list (account_of who site) once)

pub invariant_of-self-clause-ledger_lists : goal.invariant_of-self-clause-ledger_lists
invariant_of-self-clause-ledger_lists c =
    listing_moved c.args.self.now c.transactors_of-movers.ensures (withdrawal c.args.list.now (account_of c.args.who.now)) (bundle_of c.args.list.now) c.withdraw_all.result c.withdraw_all.new.ledger c.withdraw_all.ensures.step
