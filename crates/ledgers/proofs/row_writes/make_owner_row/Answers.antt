use Rattle.std.specs.Prelude.{None}
use Rattle.ledgers.specs.LedgerRows.{owner_key_cmp}
use Rattle.ledgers.proofs.RowLookups.{owner_keys}
use Rattle.ledgers.proofs.RowWriting.{rows_stay, nothing_said, none_there}
use Rattle.ledgers.proofs.row_writes.make_owner_row.Goals as goal

pub returns-clause-same : goal.returns-clause-same
returns-clause-same c = nothing_said owner_key_cmp (c.args.number, c.args.instance) None _ _ c.in_ok-insert.ensures.updates.0 owner_keys (none_there _ _ c.contains_key.ensures c.if-contains_key.false)

pub returns-clause-stay : goal.returns-clause-stay
returns-clause-stay c = rows_stay owner_key_cmp (c.args.number, c.args.instance) None _ _ c.in_ok-insert.ensures.updates.0
