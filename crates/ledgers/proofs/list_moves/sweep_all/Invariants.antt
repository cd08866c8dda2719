use Rattle.std.proofs.Common.{◌≡◌}
use Rattle.ledgers.specs.RowState.{rows_held, AreSound}
use Rattle.ledgers.proofs.list_moves.sweep_all.Given as goal

abbrev pub invariant-loop-asset : goal.invariant-loop-asset
invariant-loop-asset l = AreSound l.rows × (l.rows.assets ≡ l.fn.rows.assets) × (rows_held l.rows ≡ rows_held l.fn.rows)
