use Rattle.amounts.proofs.Lemmas.AmountLaws.{amount-empty, amount-restriction, amount-with_amount}
use Rattle.amounts.proofs.Lemmas.{amount-difference, amount-lesser, amount-merge, amount-minus, amount-plus, amount-single}
use Rattle.amounts.proofs.laws.law_of_amounts.Goals as goal

pub returns-clause-nothing : goal.returns-clause-nothing
returns-clause-nothing g c = amount-empty (record { total = g.met.K.Ord.total; exact = c.requires })

pub returns-clause-one : goal.returns-clause-one
returns-clause-one g c = amount-single (record { total = g.met.K.Ord.total; exact = c.requires })

pub returns-clause-written : goal.returns-clause-written
returns-clause-written g c = amount-with_amount (record { total = g.met.K.Ord.total; exact = c.requires })

pub returns-clause-more : goal.returns-clause-more
returns-clause-more g c = amount-plus (record { total = g.met.K.Ord.total; exact = c.requires })

pub returns-clause-less : goal.returns-clause-less
returns-clause-less g c = amount-minus (record { total = g.met.K.Ord.total; exact = c.requires })

pub returns-clause-sum_of_both : goal.returns-clause-sum_of_both
returns-clause-sum_of_both g c = amount-merge (record { total = g.met.K.Ord.total; exact = c.requires })

pub returns-clause-rest : goal.returns-clause-rest
returns-clause-rest g c = amount-difference (record { total = g.met.K.Ord.total; exact = c.requires })

pub returns-clause-least : goal.returns-clause-least
returns-clause-least g c = amount-lesser (record { total = g.met.K.Ord.total; exact = c.requires })

pub returns-clause-chosen : goal.returns-clause-chosen
returns-clause-chosen g c = amount-restriction (record { total = g.met.K.Ord.total; exact = c.requires })
