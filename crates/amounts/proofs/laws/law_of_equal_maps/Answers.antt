use Rattle.amounts.proofs.Lemmas.AmountLaws.{same_amounts}
use Rattle.amounts.proofs.laws.law_of_equal_maps.Goals as goal

pub returns : goal.returns
returns g c = same_amounts (record { total = g.met.K.Ord.total; exact = c.requires })
