use Rattle.network_steps.specs.Openable.{IsOpenableChain}
use Rattle.law_steps.proofs.Firsts.{all_recursive, few_pools_in, nothing_waits}
use Rattle.law_steps.proofs.networks.law_of_opened_networks.Goals as goal

pub returns : goal.returns
returns c = record {
  quiet = λ spec. nothing_waits spec spec.chains;
  pools = λ spec place m openable at. few_pools_in spec spec.chains (all_recursive (IsOpenableChain spec.network) spec.chains openable.chains) place m at;
}
