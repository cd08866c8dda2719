use Rattle.amounts.proofs.Lemmas.AmountLaws.{total_at_most, amount-total, total-restriction, total-with_amount, total_split}
use Rattle.amounts.proofs.Lemmas.{amount_at_most, total-difference, total-merge, total-minus, total-plus, total-single, total_alike_held, some_key}
use Rattle.amounts.proofs.laws.law_of_totals.Goals as goal

pub returns-clause-at_a_key : goal.returns-clause-at_a_key
returns-clause-at_a_key g c = amount-total (record { total = g.met.K.Ord.total; exact = c.requires })

pub returns-clause-one : goal.returns-clause-one
returns-clause-one g c = total-single (record { total = g.met.K.Ord.total; exact = c.requires })

pub returns-clause-written : goal.returns-clause-written
returns-clause-written g c = total-with_amount (record { total = g.met.K.Ord.total; exact = c.requires })

pub returns-clause-more : goal.returns-clause-more
returns-clause-more g c = total-plus (record { total = g.met.K.Ord.total; exact = c.requires })

pub returns-clause-less : goal.returns-clause-less
returns-clause-less g c = total-minus (record { total = g.met.K.Ord.total; exact = c.requires })

pub returns-clause-sum_of_both : goal.returns-clause-sum_of_both
returns-clause-sum_of_both g c = total-merge (record { total = g.met.K.Ord.total; exact = c.requires })

pub returns-clause-rest : goal.returns-clause-rest
returns-clause-rest g c = total-difference (record { total = g.met.K.Ord.total; exact = c.requires })

pub returns-clause-chosen : goal.returns-clause-chosen
returns-clause-chosen g c = total-restriction (record { total = g.met.K.Ord.total; exact = c.requires })

pub returns-clause-split : goal.returns-clause-split
returns-clause-split g c = total_split (record { total = g.met.K.Ord.total; exact = c.requires })

pub returns-clause-alike : goal.returns-clause-alike
returns-clause-alike g c = total_alike_held (record { total = g.met.K.Ord.total; exact = c.requires })

pub returns-clause-passes : goal.returns-clause-passes
returns-clause-passes g c = some_key (record { total = g.met.K.Ord.total; exact = c.requires })

pub returns-clause-wider : goal.returns-clause-wider
returns-clause-wider g c = total_at_most

pub returns-clause-covered : goal.returns-clause-covered
returns-clause-covered g c = amount_at_most (record { total = g.met.K.Ord.total; exact = c.requires })
