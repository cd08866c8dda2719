use Rattle.network_steps.specs.Genesis.{first_world, order_of}
use Rattle.law_nets.proofs.UnsaturatedWorlds.{unbarred_execution, unbarred_delivery}
use Rattle.law_nets.proofs.overflow.law_of_unbarred_deposits.Goals as goal

pub returns : goal.returns
returns c =
    let below = c.law_of_premises_of_conservation.ensures in
    record {
      executions = λ order w steps account program x a g f ok reach. unbarred_execution below.below below.shapes below.decodes order w steps f account program x a g ok reach;
      deliveries = λ order w steps d a g f ok reach. unbarred_delivery below.below below.shapes below.decodes order w steps f d a g ok reach;
      networks = λ spec steps coherent.
          let first = c.law_of_conserved_networks.ensures.first spec coherent in
          record {
            executions = λ account program x a g ok reach. unbarred_execution below.below below.shapes below.decodes (order_of spec) (first_world spec) steps first account program x a g ok reach;
            deliveries = λ d a g ok reach. unbarred_delivery below.below below.shapes below.decodes (order_of spec) (first_world spec) steps first d a g ok reach;
          };
    }
