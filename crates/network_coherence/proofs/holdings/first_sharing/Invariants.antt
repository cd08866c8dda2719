use Rattle.std.proofs.Common.{◌≡◌, drop}
use Rattle.network_steps.specs.Genesis.{entry_of}
use Rattle.network_coherence.specs.Answers.{entries_in}
use Rattle.network_coherence.specs.Parts.{first_sharing}
use Rattle.network_coherence.proofs.holdings.first_sharing.Given as goal

abbrev pub invariant-loop-at : goal.invariant-loop-at
invariant-loop-at l = first_sharing (entry_of l.spec l.here) l.row (entries_in l.spec (drop l.at-index l.later)) ≡ first_sharing (entry_of l.spec l.here) l.row (entries_in l.spec l.later)
