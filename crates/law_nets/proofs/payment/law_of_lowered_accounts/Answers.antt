use Rattle.network_steps.specs.Genesis.{first_world, order_of}
use Rattle.law_nets.proofs.Covering.{executions_covered, delivery_covered}
use Rattle.law_nets.proofs.payment.law_of_lowered_accounts.Goals as goal

pub returns : goal.returns
returns c =
    let below = c.law_of_premises_of_conservation.ensures in
    record {
      executions = executions_covered;
      deliveries = λ order w steps first d a g ok reach. delivery_covered below.below below.shapes below.decodes order w steps first d a g ok reach;
      networks = λ spec steps coherent. record {
        executions = executions_covered (order_of spec) (first_world spec) steps;
        deliveries = λ d a g ok reach. delivery_covered below.below below.shapes below.decodes (order_of spec) (first_world spec) steps (c.law_of_conserved_networks.ensures.first spec coherent) d a g ok reach;
      };
    }
