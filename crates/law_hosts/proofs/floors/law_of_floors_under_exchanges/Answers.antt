use Rattle.law_hosts.proofs.Lemmas.{exchanged_floors}
use Rattle.law_hosts.proofs.floors.law_of_floors_under_exchanges.Goals as goal

pub returns : goal.returns
returns c = exchanged_floors
