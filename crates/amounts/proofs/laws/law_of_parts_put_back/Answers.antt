use Rattle.amounts.proofs.Lemmas.{difference-merge, merge-difference, merge-restriction}
use Rattle.amounts.proofs.laws.law_of_parts_put_back.Goals as goal

pub returns-clause-put_back : goal.returns-clause-put_back
returns-clause-put_back g c = merge-difference (record { total = g.met.K.Ord.total; exact = c.requires })

pub returns-clause-taken_again : goal.returns-clause-taken_again
returns-clause-taken_again g c = difference-merge (record { total = g.met.K.Ord.total; exact = c.requires })

pub returns-clause-halves : goal.returns-clause-halves
returns-clause-halves g c = merge-restriction (record { total = g.met.K.Ord.total; exact = c.requires })
