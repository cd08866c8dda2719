use Rattle.transactors.proofs.Keeping.{given_keeps, got_keeps, moved_keeps}
use Rattle.transactors.proofs.laws.law_of_floors_of_moves.Goals as goal

pub returns : goal.returns
returns c = record { withdrawn = given_keeps; deposited = got_keeps; transferred = moved_keeps }
