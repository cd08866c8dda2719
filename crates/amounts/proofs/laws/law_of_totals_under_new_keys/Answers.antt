use Rattle.amounts.proofs.Lemmas.{total-map_keys}
use Rattle.amounts.proofs.laws.law_of_totals_under_new_keys.Goals as goal

pub returns : goal.returns
returns g c = total-map_keys {S = g.J.Ord.cmp} (record { total = g.met.K.Ord.total; exact = c.requires })
