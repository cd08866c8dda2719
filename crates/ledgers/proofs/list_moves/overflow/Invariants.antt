use Rattle.std.proofs.Common.{◌≡◌, drop}
use Rattle.ledgers.specs.Ledgers.{overflow}
use Rattle.ledgers.specs.RowState.{rows_held}
use Rattle.ledgers.proofs.list_moves.overflow.Given as goal

abbrev pub invariant-loop-asset : goal.invariant-loop-asset
invariant-loop-asset l = overflow (rows_held l.rows) l.who l.list ≡ overflow (rows_held l.rows) l.who (drop l.asset-index l.list)
