use Rattle.std.proofs.Common.{◌∙◌, ap, sym}
use Rattle.chain_ids.specs.Chains.{same_chain}
use Rattle.network_spec.specs.declared.chain.ChainSpec.{ChainSpec}
use Rattle.network_config.proofs.Naming.{lies_before, told_first}
use Rattle.network_config.proofs.names.NamedChains.has_before.Goals as goal

pub returns-in-Some : goal.returns-in-Some
returns-in-Some c =
    ap (lies_before c.args.at) (sym c.in-Some.is ∙ c.first_place.ensures) ∙ told_first (λ (x : ChainSpec). same_chain x.chain c.args.chain) c.args.self.now c.args.at

pub returns-in-None : goal.returns-in-None
returns-in-None c =
    ap (lies_before c.args.at) (sym c.in-None.is ∙ c.first_place.ensures) ∙ told_first (λ (x : ChainSpec). same_chain x.chain c.args.chain) c.args.self.now c.args.at
