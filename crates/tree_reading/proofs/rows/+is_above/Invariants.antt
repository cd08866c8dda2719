use Rattle.tree_reading.proofs.rows.+is_above.Given as goal

abbrev pub decreases-is_above : goal.decreases-is_above
decreases-is_above l = l.level
