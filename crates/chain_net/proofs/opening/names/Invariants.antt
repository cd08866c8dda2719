use Rattle.std.proofs.Common.{◌≡◌, ◌++◌, map, drop}
use Rattle.network_spec.specs.declared.chain.ChainSpec.{ChainSpec}
use Rattle.chain_net.proofs.opening.names.Given as goal

abbrev pub invariant-loop-entry : goal.invariant-loop-entry
invariant-loop-entry l = l.names.items ++ map (λ (c : ChainSpec). c.chain) (drop l.entry-index l.chains) ≡ map (λ (c : ChainSpec). c.chain) l.chains
