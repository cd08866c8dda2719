use Rattle.std.proofs.Common.{◌≡◌, ◌++◌, drop}
use Rattle.network_config.specs.Sums.{shares_of}
use Rattle.network_config.proofs.sums.shares_of.Given as goal

abbrev pub invariant-loop-chain : goal.invariant-loop-chain
invariant-loop-chain l =
    l.shares.items ++ shares_of l.network.network l.index (drop l.chain-index l.chains) ≡ shares_of l.network.network 0 l.chains
