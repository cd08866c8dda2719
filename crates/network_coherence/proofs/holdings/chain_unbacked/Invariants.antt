use Rattle.std.proofs.Common.{◌≡◌, drop}
use Rattle.trust_tables.specs.declared.rows.AssetRow.{AssetRow}
use Rattle.law_coherence.specs.Causes.{first_some, not_backed}
use Rattle.network_steps.specs.Genesis.{entry_of, entries_of}
use Rattle.network_coherence.specs.Parts.{not_backed_at}
use Rattle.network_coherence.proofs.holdings.chain_unbacked.Given as goal

abbrev pub invariant-loop-row : goal.invariant-loop-row
invariant-loop-row l = first_some (λ (x : AssetRow). not_backed (entries_of l.spec) (entry_of l.spec l.here) x x.role) (drop l.row-index l.rows) ≡ not_backed_at (entries_of l.spec) (entry_of l.spec l.here)
