use Rattle.exec_rules.proofs.Lemmas.CallLaws.{refused_is, done_is}
use Rattle.exec_rules.proofs.Lemmas.ReasonLaws.{asked}
use Rattle.exec_rules.proofs.Lemmas.StopLaws.{spilled_lead}
use Rattle.exec_rules.proofs.call_laws.law_of_instructions_as_calls.Goals as goal

pub returns-clause-refused : goal.returns-clause-refused
returns-clause-refused c = refused_is

pub returns-clause-done : goal.returns-clause-done
returns-clause-done c = done_is

pub returns-clause-asked : goal.returns-clause-asked
returns-clause-asked c = asked

pub returns-clause-stopped : goal.returns-clause-stopped
returns-clause-stopped c = spilled_lead
