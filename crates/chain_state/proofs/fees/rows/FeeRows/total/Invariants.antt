use Rattle.std.proofs.Common.{None}
use Rattle.chain_state.proofs.ReadingFacts.{Left}
use Rattle.chain_state.proofs.fees.rows.FeeRows.total.Given as goal

abbrev pub invariant-loop-row : goal.invariant-loop-row
invariant-loop-row l = Left (l.id, None) l.row-items l.row-index
