use Rattle.std.proofs.Common.{sym, ◌∙◌}
use Rattle.std.specs.Prelude.{None}
use Rattle.ledgers.specs.LedgerRows.{owner_key_cmp}
use Rattle.ledgers.proofs.RowLookups.{owner_keys}
use Rattle.ledgers.proofs.RowWriting.{nothing_lost, none_there}
use Rattle.ledgers.proofs.row_writes.sweep_owner.Goals as goal

pub returns-clause-same : goal.returns-clause-same
returns-clause-same c =
    nothing_lost owner_key_cmp owner_keys (c.args.number, c.args.instance) None _ _ c.remove.ensures.updates.0 (sym c.owner_in.ensures ∙ none_there _ c.owner_in.result c.is_some.ensures c.if-is_some.false)
