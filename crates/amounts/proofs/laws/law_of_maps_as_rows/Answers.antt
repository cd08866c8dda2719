use Rattle.amounts.specs.Amounts.{rows}
use Rattle.amounts.proofs.Lemmas.AmountLaws.{rows_positive, rows_sorted}
use Rattle.amounts.proofs.Lemmas.{from_rows-append, from_rows-rows, plus_all-from_rows}
use Rattle.amounts.proofs.Lemmas.Rows.{keys_rising}
use Rattle.amounts.proofs.laws.law_of_maps_as_rows.Goals as goal

pub returns-clause-back : goal.returns-clause-back
returns-clause-back g c = from_rows-rows (record { total = g.met.K.Ord.total; exact = c.requires })

pub returns-clause-rising : goal.returns-clause-rising
returns-clause-rising g c = λ m. keys_rising _ (rows m) (rows_sorted m)

pub returns-clause-positive : goal.returns-clause-positive
returns-clause-positive g c = rows_positive

pub returns-clause-joined : goal.returns-clause-joined
returns-clause-joined g c = from_rows-append (record { total = g.met.K.Ord.total; exact = c.requires })

pub returns-clause-added : goal.returns-clause-added
returns-clause-added g c = plus_all-from_rows (record { total = g.met.K.Ord.total; exact = c.requires })
