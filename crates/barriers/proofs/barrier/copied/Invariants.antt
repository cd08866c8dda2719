use Rattle.std.proofs.Common.{◌≡◌, take}
use Rattle.barriers.proofs.barrier.copied.Given as goal

abbrev pub invariant-loop-origin : goal.invariant-loop-origin
invariant-loop-origin l = l.copies.items ≡ take l.origin-index l.origins
