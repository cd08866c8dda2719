use Rattle.amounts.proofs.Lemmas.Moves.{total_kept}
use Rattle.amounts.proofs.laws.law_of_a_move.Goals as goal

pub returns : goal.returns
returns g c = total_kept (record { total = g.met.J.Ord.total; exact = c.requires.from_exact }) (record { total = g.met.K.Ord.total; exact = c.requires.to_exact })
