use Rattle.std.proofs.Common.{◌≡◌, take}
use Rattle.chain_net.proofs.opening.copied_barriers.Given as goal

abbrev pub invariant-loop-barrier : goal.invariant-loop-barrier
invariant-loop-barrier l = l.copies.items ≡ take l.barrier-index l.barriers
