use Rattle.std.proofs.Common.{◌≡◌, drop}
use Rattle.network_steps.specs.Genesis.{entries_of}
use Rattle.network_coherence.specs.Answers.{entries_in}
use Rattle.network_coherence.specs.Parts.{unbacked}
use Rattle.network_coherence.proofs.holdings.not_backed.Given as goal

abbrev pub invariant-loop-here : goal.invariant-loop-here
invariant-loop-here l = unbacked (entries_of l.spec) (entries_in l.spec (drop l.here-index l.chains)) ≡ unbacked (entries_of l.spec) (entries_of l.spec)
