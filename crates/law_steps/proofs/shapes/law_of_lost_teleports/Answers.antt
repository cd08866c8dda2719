use Rattle.exec_rules.specs.Instructions.{xcm}
use Rattle.law_steps.proofs.Lost.{lost_of_delivery}
use Rattle.law_steps.proofs.shapes.law_of_lost_teleports.Goals as goal

pub returns : goal.returns
returns c = lost_of_delivery c.law_of_orderly_instructions.ensures.steers (λ g h r. c.law_of_orderly_runs.ensures.same xcm g h c.law_of_orderly_instructions.ensures.steers r)
