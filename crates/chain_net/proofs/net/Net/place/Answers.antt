use Rattle.std.proofs.Common.{◌∙◌, ap, List}
use Rattle.std.specs.List.{position}
use Rattle.chain_ids.specs.declared.chain.ChainId.{ChainId}
use Rattle.chain_ids.specs.Chains.{same_chain}
use Rattle.chain_net.proofs.Members.{place_named}
use Rattle.chain_net.proofs.net.Net.place.Goals as goal

pub returns-clause-place : goal.returns-clause-place
returns-clause-place c =
    c.place_in.ensures
    ∙ ap (λ (names : List ChainId). position (λ (n : ChainId). same_chain n c.args.chain) names) c.as_slice.ensures.value
    ∙ place_named c.args.self.now.rules.items c.args.self.now.chains.items c.args.self.now.names.items c.args.chain c.args.self.now.ruled c.args.self.now.named
