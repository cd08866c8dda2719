use Rattle.std.proofs.Common.{◌≡◌, map, subst}
use Rattle.ledgers.specs.Ledgers.{Accounts, account_sum_of}
use Rattle.ledgers.proofs.AccountSums.{sums_of}
use Rattle.ledgers.proofs.ledger.Ledger.account_sums.Goals as goal

pub returns : goal.returns
returns c =
    let r = c.self.inside.rows in
    let sums = c.in_ok-sums.sums.items in
    record {
      sums = subst (λ (l : Accounts). sums ≡ map (λ asset. account_sum_of c.args.who.now asset l.held) l.listed) c.self.view_is
          (sums_of r.assets r.amounts.entries r.owners.entries r.sums.items c.self.invariant c.args.who.now sums c.len-count.result c.len-count.ensures c.in_ok-sums.ensures.count c.in_ok-sums.ensures.sums);
    }
