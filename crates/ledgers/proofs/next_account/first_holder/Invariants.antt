use Rattle.std.proofs.Common.{None}
use Rattle.ledgers.proofs.NextRows.{IsAhead}
use Rattle.ledgers.proofs.next_account.first_holder.Given as goal

abbrev pub invariant-loop-key : goal.invariant-loop-key
invariant-loop-key l = IsAhead None l.rows l.key-iterator
