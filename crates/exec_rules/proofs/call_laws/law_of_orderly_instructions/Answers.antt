use Rattle.exec_rules.specs.Instructions.{xcm}
use Rattle.exec_rules.proofs.Steering.{xcm_steers}
use Rattle.exec_rules.proofs.call_laws.law_of_orderly_instructions.Goals as goal

pub returns-clause-steers : goal.returns-clause-steers
returns-clause-steers c = xcm_steers

pub returns-clause-refused : goal.returns-clause-refused
returns-clause-refused c = λ part place x behind m e. c.law_of_orderly_runs.ensures.refused xcm part place x behind m e
