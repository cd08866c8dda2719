use Rattle.law_hosts.proofs.Lemmas.{holding_once, given_floors, got_floors}
use Rattle.law_hosts.proofs.floors.law_of_floors_under_moves.Goals as goal

pub returns : goal.returns
returns c = record { given = λ p list who holding ok floors. given_floors p list (holding_once list holding) floors who ok; got = got_floors }
