use Rattle.chain_net.specs.Nets.{world_of}
use Rattle.chain_net.proofs.Swaps.{swapped}
use Rattle.chain_net.proofs.laws.law_of_swapped_calls.Goals as goal

pub returns : goal.returns
returns c s t first second a b same apart one two = swapped s t first second a b same (c.law_of_independence.ensures.free (world_of first) s t apart one two)
