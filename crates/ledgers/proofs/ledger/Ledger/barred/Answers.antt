use Rattle.std.proofs.Common.{◌≡◌, subst}
use Rattle.std.specs.Prelude.{None, MatchOption}
use Rattle.ledgers.specs.Ledgers.{Accounts, barred}
use Rattle.ledgers.specs.LedgerFaults.{IsFirstBarred}
use Rattle.ledgers.proofs.ledger.Ledger.barred.Goals as goal

pub returns : goal.returns
returns c = record {
  barred = subst (λ (l : Accounts). MatchOption c.barred.result
      (barred l.held c.args.who.now c.args.list.now ≡ None)
      (IsFirstBarred l.held c.args.who.now c.args.list.now)) c.self.view_is c.barred.ensures;
}
