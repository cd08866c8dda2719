use Rattle.chain_state.proofs.Lemmas.Known.{all_there}
use Rattle.test_execution.proofs.program_courses.is_right.Goals as goal

pub invariant_of-host : goal.invariant_of-host
invariant_of-host c = all_there c.goes.new.host.chain
