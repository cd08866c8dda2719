use Rattle.std.proofs.Common.{◌≡◌, drop}
use Rattle.law_coherence.specs.Causes.{first_some}
use Rattle.network_steps.specs.Genesis.{entry_of}
use Rattle.network_coherence.specs.Answers.{entries_in}
use Rattle.network_coherence.specs.Parts.{row_sharing, chain_sharing}
use Rattle.network_coherence.proofs.holdings.chain_sharing.Given as goal

abbrev pub invariant-loop-row : goal.invariant-loop-row
invariant-loop-row l = first_some (row_sharing (entry_of l.spec l.here) (entries_in l.spec l.later)) (drop l.row-index l.rows) ≡ chain_sharing (entry_of l.spec l.here) (entries_in l.spec l.later)
