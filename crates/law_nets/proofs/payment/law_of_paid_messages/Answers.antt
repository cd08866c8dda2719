use Rattle.network_steps.specs.Genesis.{first_world, order_of}
use Rattle.law_nets.proofs.Networks.{have_room, none_sovereign}
use Rattle.law_nets.proofs.payment.law_of_paid_messages.Goals as goal

pub returns : goal.returns
returns c = record {
  withdrawal = λ spec steps coherent. c.law_of_paid_deliveries.ensures.withdrawal (order_of spec) (first_world spec) steps (c.law_of_conserved_networks.ensures.first spec coherent) (have_room spec coherent.openable) (none_sovereign spec);
  teleport = λ spec steps coherent. c.law_of_paid_deliveries.ensures.teleport (order_of spec) (first_world spec) steps (c.law_of_conserved_networks.ensures.first spec coherent) (have_room spec coherent.openable);
  lost = λ spec steps coherent. c.law_of_paid_deliveries.ensures.lost (order_of spec) (first_world spec) steps (c.law_of_conserved_networks.ensures.first spec coherent) (have_room spec coherent.openable);
}
