use Rattle.tree_reading.proofs.rows.+words_at.Given as goal

abbrev pub decreases-words_at : goal.decreases-words_at
decreases-words_at l = l.level
