use Rattle.law_steps.proofs.Runs.{reached_shaped, executed_shaped}
use Rattle.law_steps.proofs.Runs.{stopped_shaped}
use Rattle.law_steps.proofs.shapes.law_of_runs_that_send.Goals as goal

pub returns : goal.returns
returns c = record { reached = reached_shaped; executed = executed_shaped; stopped = stopped_shaped }
