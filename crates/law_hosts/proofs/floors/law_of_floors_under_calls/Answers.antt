use Rattle.law_hosts.proofs.Lemmas.{dispatched_floors, in_part_floors}
use Rattle.law_hosts.proofs.floors.law_of_floors_under_calls.Goals as goal

pub returns-clause-dispatched : goal.returns-clause-dispatched
returns-clause-dispatched c = dispatched_floors

pub returns-clause-in_part : goal.returns-clause-in_part
returns-clause-in_part c = in_part_floors
