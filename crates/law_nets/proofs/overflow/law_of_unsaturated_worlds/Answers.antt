use Rattle.network_steps.specs.Genesis.{first_world, order_of}
use Rattle.law_nets.proofs.UnsaturatedWorlds.{no_excess_ever, no_excess_yet}
use Rattle.law_nets.proofs.overflow.law_of_unsaturated_worlds.Goals as goal

pub returns : goal.returns
returns c =
    let below = c.law_of_premises_of_conservation.ensures in
    record {
      worlds = no_excess_ever below.below below.shapes below.decodes;
      networks = λ spec steps coherent. no_excess_ever below.below below.shapes below.decodes (order_of spec) (first_world spec) steps (c.law_of_conserved_networks.ensures.first spec coherent) (no_excess_yet spec spec.chains);
    }
