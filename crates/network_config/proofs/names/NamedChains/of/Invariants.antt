use Rattle.std.proofs.Common.{◌≡◌, ◌≤◌, drop, length}
use Rattle.chain_ids.specs.declared.chain.ChainId.{ChainId}
use Rattle.network_config.specs.Names.{named_place, first_place}
use Rattle.network_config.proofs.names.NamedChains.of.Given as goal

abbrev pub invariant-loop-at : goal.invariant-loop-at
invariant-loop-at l = record {
  within : l.at ≤ length l.chains;
  places : (q : ChainId) → named_place l.places.entries q ≡ first_place l.at (drop l.at l.chains) q;
}

abbrev pub decreases-loop-at : goal.decreases-loop-at
decreases-loop-at l = l.at
