use Rattle.std.proofs.Common.{◌≡◌, ◌-◌, length, map}
use Rattle.amounts.specs.Amounts.{rows}
use Rattle.ledgers.specs.Holdings.{holding_at}
use Rattle.ledgers.proofs.Lemmas.Shown.{shown}
use Rattle.ledgers.proofs.listing.all_holdings.Given as goal

abbrev pub invariant-loop-who : goal.invariant-loop-who
invariant-loop-who l = l.list.items ≡ map holding_at (shown l.after (rows l.ledger.held))

abbrev pub decreases-loop-who : goal.decreases-loop-who
decreases-loop-who l = length (rows l.ledger.held) - length (shown l.after (rows l.ledger.held))
