use Rattle.law_authority.proofs.LockRuns.{reached_floors, executed_floors, stopped_floors}
use Rattle.law_authority.proofs.locks.law_of_kept_floors.Goals as goal

pub returns-clause-reached : goal.returns-clause-reached
returns-clause-reached c = reached_floors c.law_of_bundles.ensures.from_lists c.law_of_orderly_instructions.ensures.steers

pub returns-clause-executed : goal.returns-clause-executed
returns-clause-executed c = λ rules origin credit program p lists floors. executed_floors c.law_of_bundles.ensures.from_lists c.law_of_orderly_instructions.ensures.steers rules origin credit program p lists floors

pub returns-clause-stopped : goal.returns-clause-stopped
returns-clause-stopped c = λ rules origin credit program p now lists h floors. stopped_floors c.law_of_bundles.ensures.from_lists c.law_of_orderly_instructions.ensures.steers rules origin credit program p lists now h floors
