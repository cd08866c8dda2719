use Rattle.law_hosts.proofs.Booking.{conserves_join, conserves_burn, conserves_park, conserves_told, conserves_answer}
use Rattle.law_hosts.proofs.laws.law_of_conserved_joins_and_burns.Goals as goal

pub returns-clause-joined : goal.returns-clause-joined
returns-clause-joined c = conserves_join

pub returns-clause-burnt : goal.returns-clause-burnt
returns-clause-burnt c = conserves_burn

pub returns-clause-parked : goal.returns-clause-parked
returns-clause-parked c = conserves_park

pub returns-clause-told : goal.returns-clause-told
returns-clause-told c = conserves_told

pub returns-clause-answered : goal.returns-clause-answered
returns-clause-answered c = conserves_answer
