use Rattle.std.proofs.Common.{◌≡◌, drop}
use Rattle.ledgers.specs.Ledgers.{shortage}
use Rattle.ledgers.specs.RowState.{rows_held}
use Rattle.ledgers.proofs.list_moves.shortage.Given as goal

abbrev pub invariant-loop-asset : goal.invariant-loop-asset
invariant-loop-asset l = shortage (rows_held l.rows) l.who l.list ≡ shortage (rows_held l.rows) l.who (drop l.asset-index l.list)
