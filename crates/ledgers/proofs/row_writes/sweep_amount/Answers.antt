use Rattle.std.proofs.Common.{sym, ap, ◌∙◌, subst}
use Rattle.ledgers.specs.LedgerRows.{amount_key_cmp, amount_in_row, AreSmall}
use Rattle.ledgers.proofs.RowLookups.{amount_keys}
use Rattle.ledgers.proofs.RowWriting.{nothing_lost, small_remove, no_amount}
use Rattle.ledgers.proofs.row_writes.sweep_amount.Goals as goal

pub returns-clause-same : goal.returns-clause-same
returns-clause-same c =
    nothing_lost amount_key_cmp amount_keys (c.of.result, c.args.number) 0 _ _ c.remove.ensures.updates.0 (ap (λ w. amount_in_row c.args.rows.now.entries (w, c.args.number)) c.of.ensures ∙ sym c.amount_in.ensures ∙ no_amount c.amount_in.result c.if-amount_in-gt0.false)

pub returns-clause-small : goal.returns-clause-small
returns-clause-small c = λ small. subst AreSmall (sym c.remove.ensures.entries) (small_remove _ _ small)
