use Rattle.std.proofs.Common.{sym, ◌∙◌}
use Rattle.trust_tables.specs.Accounts.{account_of}
use Rattle.transactors.specs.Moves.{transfer_fault, after_transfer}
use Rattle.transactors.proofs.Moving.{refuses}
use Rattle.transactors.proofs.moves.transfer_all.Goals as goal

pub returns-in-Some : goal.returns-in-Some
returns-in-Some g c =
    let site = g.T.Transactor.site c.args.t.now in
    let ledger = c.args.ledger.now in
    let list = c.args.list.now in
    let giver = account_of c.args.from.now site in
    let taker = account_of c.args.to.now site in
    let fault = transfer_fault (g.T.Transactor.rows c.args.t.now) (g.T.Transactor.floors c.args.t.now) ledger list in
    record {
      step = refuses (fault giver taker) (tt {0}) (after_transfer list giver taker ledger) ledger c.in-Some.fault
          ((λ i. fault (sym c.account-giver.ensures.account i) (sym c.account-taker.ensures.account i)) ∙ sym c.transfer_fault.ensures.fault ∙ c.in-Some.is);
    }
