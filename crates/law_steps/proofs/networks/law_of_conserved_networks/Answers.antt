use Rattle.network_steps.specs.Genesis.{first_world, order_of}
use Rattle.law_steps.proofs.NetworkFacts.{is_first}
use Rattle.law_steps.proofs.networks.law_of_conserved_networks.Goals as goal

pub returns : goal.returns
returns c = record {
  first = λ spec coherent. is_first c.law_of_seven_message_shapes.ensures.first spec coherent;
  kept = λ spec steps coherent. c.law_of_conserved_worlds.ensures.kept (order_of spec) (first_world spec) steps (is_first c.law_of_seven_message_shapes.ensures.first spec coherent);
  between = λ spec steps coherent. c.law_of_conserved_worlds.ensures.between (order_of spec) (first_world spec) steps (is_first c.law_of_seven_message_shapes.ensures.first spec coherent);
  sound = λ spec steps coherent. c.law_of_conserved_worlds.ensures.sound (order_of spec) (first_world spec) steps (is_first c.law_of_seven_message_shapes.ensures.first spec coherent);
}
