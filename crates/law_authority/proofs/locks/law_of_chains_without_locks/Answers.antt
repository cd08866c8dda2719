use Rattle.law_authority.proofs.Closed.{refused_lock, refused_unlock, refused_note, refused_request, executed_closed, stopped_closed}
use Rattle.law_authority.proofs.locks.law_of_chains_without_locks.Goals as goal

pub returns-clause-refused : goal.returns-clause-refused
returns-clause-refused c = λ m a place off. (refused_lock m off a place, refused_unlock m off a place, refused_note m off a place, refused_request m off a place)

pub returns-clause-executed : goal.returns-clause-executed
returns-clause-executed c = executed_closed

pub returns-clause-stopped : goal.returns-clause-stopped
returns-clause-stopped c = λ rules origin credit program p now off h. stopped_closed rules origin credit program p off now h
