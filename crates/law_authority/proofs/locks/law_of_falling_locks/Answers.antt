use Rattle.law_authority.proofs.LockActs.{done_falls, halted_falls}
use Rattle.law_authority.proofs.LockRuns.{finished_same, executed_falls, stopped_falls}
use Rattle.law_authority.proofs.locks.law_of_falling_locks.Goals as goal

pub returns : goal.returns
returns c = record { done = done_falls; halted = halted_falls; finished = finished_same; executed = executed_falls; stopped = stopped_falls }
