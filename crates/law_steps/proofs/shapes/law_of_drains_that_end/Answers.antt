use Rattle.std.proofs.Common.{arith}
use Rattle.network_steps.specs.Sends.{deliveries_left}
use Rattle.law_steps.proofs.Drains.{delivery_lowers, few_deliveries, drained}
use Rattle.law_steps.proofs.shapes.law_of_drains_that_end.Goals as goal

pub returns-clause-lowers : goal.returns-clause-lowers
returns-clause-lowers c = delivery_lowers c.law_of_orderly_instructions.ensures.steers

pub returns-clause-few : goal.returns-clause-few
returns-clause-few c = λ order w. few_deliveries (deliveries_left w) order w

pub returns-clause-ends : goal.returns-clause-ends
returns-clause-ends c = λ order w all apart. drained c.law_of_orderly_instructions.ensures.steers (deliveries_left w) order w all apart (omega arith)
