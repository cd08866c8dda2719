use Rattle.amounts.proofs.Lemmas.Entries.{amount-from_entries, from_entries_changed, rows-from_entries, total-from_entries}
use Rattle.amounts.proofs.laws.law_of_entries.Goals as goal

pub returns-clause-at_a_key : goal.returns-clause-at_a_key
returns-clause-at_a_key g c = amount-from_entries (record { total = g.met.K.Ord.total; exact = c.requires })

pub returns-clause-changed : goal.returns-clause-changed
returns-clause-changed g c = from_entries_changed (record { total = g.met.K.Ord.total; exact = c.requires })

pub returns-clause-rows_are : goal.returns-clause-rows_are
returns-clause-rows_are g c = rows-from_entries (record { total = g.met.K.Ord.total; exact = c.requires })

pub returns-clause-total_is : goal.returns-clause-total_is
returns-clause-total_is g c = total-from_entries (record { total = g.met.K.Ord.total; exact = c.requires })
