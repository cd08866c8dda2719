use Rattle.amounts.proofs.Lemmas.Moves.{total_kept_all}
use Rattle.amounts.proofs.laws.law_of_sums_kept_by_moves.Goals as goal

pub returns : goal.returns
returns g c = total_kept_all (record { total = g.met.J.Ord.total; exact = c.requires.from_exact }) (record { total = g.met.K.Ord.total; exact = c.requires.to_exact })
