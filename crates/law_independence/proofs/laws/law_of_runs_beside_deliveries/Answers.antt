use Rattle.law_independence.proofs.Runs.{ran_beside, oldest_stays}
use Rattle.law_independence.proofs.laws.law_of_runs_beside_deliveries.Goals as goal

pub returns : goal.returns
returns c = record { ran = ran_beside; oldest = oldest_stays }
