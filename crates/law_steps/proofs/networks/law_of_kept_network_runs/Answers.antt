use Rattle.network_steps.specs.Genesis.{first_world, order_of}
use Rattle.law_steps.proofs.networks.law_of_kept_network_runs.Goals as goal

pub returns : goal.returns
returns c = record {
  kept = λ spec steps coherent. c.law_of_kept_runs.ensures.kept (order_of spec) (first_world spec) steps (c.law_of_conserved_networks.ensures.first spec coherent);
  rising = λ spec steps coherent. c.law_of_kept_runs.ensures.rising (order_of spec) (first_world spec) steps (c.law_of_conserved_networks.ensures.first spec coherent);
}
