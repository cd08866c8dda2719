use Rattle.ledgers.specs.LedgerRows.{owner_key_cmp}
use Rattle.ledgers.proofs.RowWriting.{rows_stay}
use Rattle.ledgers.proofs.row_writes.write_owner.Goals as goal

pub returns-clause-stay : goal.returns-clause-stay
returns-clause-stay c = rows_stay owner_key_cmp (c.args.number, c.args.instance) c.args.owner _ _ c.in-Ok.ensures.updates.0
