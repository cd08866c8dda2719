use Rattle.law_hosts.proofs.Moving.{conserves_withdrawal, conserves_deposit, conserves_transfer, received_whole}
use Rattle.law_hosts.proofs.laws.law_of_conserved_account_moves.Goals as goal

pub returns-clause-withdrawn : goal.returns-clause-withdrawn
returns-clause-withdrawn c = conserves_withdrawal c.law_of_ledgers.ensures.withdrawn

pub returns-clause-deposited : goal.returns-clause-deposited
returns-clause-deposited c = conserves_deposit

pub returns-clause-transferred : goal.returns-clause-transferred
returns-clause-transferred c = conserves_transfer c.law_of_ledgers.ensures.withdrawn

pub returns-clause-received : goal.returns-clause-received
returns-clause-received c = received_whole
