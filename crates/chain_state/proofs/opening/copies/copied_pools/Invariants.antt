use Rattle.std.proofs.Common.{◌≡◌, take}
use Rattle.chain_state.proofs.opening.copies.copied_pools.Given as goal

abbrev pub invariant-loop-pool : goal.invariant-loop-pool
invariant-loop-pool l = l.copy.items ≡ take l.pool-index l.pools
