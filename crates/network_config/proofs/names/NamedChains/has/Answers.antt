use Rattle.std.proofs.Common.{◌∙◌, ap}
use Rattle.std.specs.Prelude.{is_some}
use Rattle.chain_ids.specs.Chains.{same_chain}
use Rattle.network_spec.specs.declared.chain.ChainSpec.{ChainSpec}
use Rattle.network_config.proofs.Naming.{found}
use Rattle.network_config.proofs.names.NamedChains.has.Goals as goal

pub returns : goal.returns
returns c = c.is_some.ensures ∙ ap is_some c.first_place.ensures ∙ found (λ (x : ChainSpec). same_chain x.chain c.args.chain) c.args.self.now 0
