use Rattle.std.proofs.Common.{Some}
use Rattle.ledgers.proofs.NextRows.{IsAhead}
use Rattle.ledgers.proofs.next_account.holder_after.Given as goal

abbrev pub invariant-loop-key : goal.invariant-loop-key
invariant-loop-key l = IsAhead (Some l.after) l.rows l.key-iterator
