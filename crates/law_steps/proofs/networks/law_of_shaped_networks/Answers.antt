use Rattle.network_steps.specs.Genesis.{first_world, order_of}
use Rattle.law_steps.proofs.Firsts.{nothing_waits}
use Rattle.law_steps.proofs.networks.law_of_shaped_networks.Goals as goal

pub returns : goal.returns
returns c spec steps = c.law_of_seven_message_shapes.ensures.worlds (order_of spec) (first_world spec) steps (c.law_of_seven_message_shapes.ensures.first (first_world spec) (nothing_waits spec spec.chains))
