use Rattle.std.proofs.Common.{◌≡◌, length}
use Rattle.law_coherence.specs.Causes.{instance_twice}
use Rattle.network_steps.specs.Genesis.{entries_of}
use Rattle.network_coherence.specs.Answers.{entries_in}
use Rattle.network_coherence.proofs.holdings.instance_twice.Given as goal

abbrev pub invariant-loop-here : goal.invariant-loop-here
invariant-loop-here l = instance_twice (entries_in l.spec l.chains) ≡ instance_twice (entries_of l.spec)

abbrev pub decreases-loop-here : goal.decreases-loop-here
decreases-loop-here l = length l.chains
