use Rattle.std.proofs.Common.{sym, subst}
use Rattle.ledgers.specs.LedgerRows.{amount_key_cmp, AreSmall}
use Rattle.ledgers.proofs.RowLookups.{amount_keys}
use Rattle.ledgers.proofs.RowWriting.{rows_stay, nothing_said, none_there, small_insert, small_zero}
use Rattle.ledgers.proofs.row_writes.make_amount_row.Goals as goal

pub returns-clause-same : goal.returns-clause-same
returns-clause-same c = nothing_said amount_key_cmp (c.of.result, c.args.number) 0 _ _ c.in_ok-insert.ensures.updates.0 amount_keys (none_there _ _ c.contains_key.ensures c.if-contains_key.false)

pub returns-clause-stay : goal.returns-clause-stay
returns-clause-stay c = rows_stay amount_key_cmp (c.of.result, c.args.number) 0 _ _ c.in_ok-insert.ensures.updates.0

pub returns-clause-small : goal.returns-clause-small
returns-clause-small c = λ small. subst AreSmall (sym c.in_ok-insert.ensures.entries) (small_insert _ 0 _ small_zero small)
