use Rattle.law_hosts.proofs.Dispatching.{conserves_dispatch, conserves_dispatch_in_part}
use Rattle.law_hosts.proofs.laws.law_of_dispatched_calls.Goals as goal

pub returns-clause-dispatched : goal.returns-clause-dispatched
returns-clause-dispatched c = conserves_dispatch

pub returns-clause-in_part : goal.returns-clause-in_part
returns-clause-in_part c = conserves_dispatch_in_part
