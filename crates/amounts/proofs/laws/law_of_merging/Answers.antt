use Rattle.amounts.proofs.Lemmas.{merge-empty, merge_assoc, merge_comm}
use Rattle.amounts.proofs.laws.law_of_merging.Goals as goal

pub returns-clause-nothing : goal.returns-clause-nothing
returns-clause-nothing g c = merge-empty (record { total = g.met.K.Ord.total; exact = c.requires })

pub returns-clause-commutes : goal.returns-clause-commutes
returns-clause-commutes g c = merge_comm (record { total = g.met.K.Ord.total; exact = c.requires })

pub returns-clause-associates : goal.returns-clause-associates
returns-clause-associates g c = merge_assoc (record { total = g.met.K.Ord.total; exact = c.requires })
