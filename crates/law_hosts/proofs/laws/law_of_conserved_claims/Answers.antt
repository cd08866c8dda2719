use Rattle.law_hosts.proofs.Claiming.{conserves_trap, conserves_claim}
use Rattle.law_hosts.proofs.laws.law_of_conserved_claims.Goals as goal

pub returns-clause-trapped : goal.returns-clause-trapped
returns-clause-trapped c = conserves_trap c.law_of_traps.ensures.kept

pub returns-clause-claimed : goal.returns-clause-claimed
returns-clause-claimed c = conserves_claim
