use Rattle.std.proofs.Common.{◌≡◌, ◌++◌, map, drop}
use Rattle.network_steps.specs.Genesis.{part_at}
use Rattle.chain_state.specs.PartOf.{part_of}
use Rattle.chain_net.proofs.opening.all_states.Given as goal

abbrev pub invariant-loop-entry : goal.invariant-loop-entry
invariant-loop-entry l = map part_of l.states.items ++ map (part_at l.spec) (drop l.entry-index l.chains) ≡ map (part_at l.spec) l.chains
