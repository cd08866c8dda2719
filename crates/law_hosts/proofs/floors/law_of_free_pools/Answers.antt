use Rattle.law_hosts.proofs.Lemmas.{lockable_not}
use Rattle.law_hosts.proofs.floors.law_of_free_pools.Goals as goal

pub returns : goal.returns
returns c = lockable_not
