use Rattle.std.proofs.Common.{option_copied, subst}
use Rattle.std.specs.Prelude.{MatchOption}
use Rattle.ledgers.specs.Ledgers.{Accounts, NoneNext, IsNext}
use Rattle.ledgers.proofs.NextAccounts.{next_read}
use Rattle.ledgers.proofs.ledger.Ledger.next_account.Goals as goal

pub returns : goal.returns
returns c =
    let r = c.self.inside.rows in
    let after = option_copied c.args.after in
    record {
      next = subst (λ (l : Accounts). MatchOption c.next_holder.result (NoneNext after l.held) (IsNext after l.held)) c.self.view_is
          (next_read r.assets r.amounts.entries r.owners.entries r.sums.items c.self.invariant after c.next_holder.result c.next_holder.ensures);
    }
