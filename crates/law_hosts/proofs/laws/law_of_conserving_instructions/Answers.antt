use Rattle.law_hosts.proofs.Accepted.{conserves_accepted, conserves_spilt}
use Rattle.law_hosts.proofs.laws.law_of_conserving_instructions.Goals as goal

pub returns : goal.returns
returns c = record {
  conserved = conserves_accepted c.law_of_ledgers.ensures.withdrawn c.law_of_conserved_payments.ensures.moves;
  spilt = conserves_spilt c.law_of_ledgers.ensures.withdrawn c.law_of_conserved_payments.ensures.moves c.law_of_instructions_as_calls.ensures.stopped;
}
