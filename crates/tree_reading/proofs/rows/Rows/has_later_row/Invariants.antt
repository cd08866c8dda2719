use Rattle.std.proofs.Common.{length}
use Rattle.tree_reading.proofs.rows.Rows.has_later_row.Given as goal

abbrev pub decreases-loop-bytes : goal.decreases-loop-bytes
decreases-loop-bytes l = length l.rest
