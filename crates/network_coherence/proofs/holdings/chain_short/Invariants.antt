use Rattle.std.proofs.Common.{◌≡◌, drop}
use Rattle.trust_tables.specs.declared.rows.AssetRow.{AssetRow}
use Rattle.law_coherence.specs.Causes.{first_some, falls_short, checking_in}
use Rattle.network_steps.specs.Genesis.{entry_of, entries_of}
use Rattle.network_coherence.specs.Parts.{falls_short_at}
use Rattle.network_coherence.proofs.holdings.chain_short.Given as goal

abbrev pub invariant-loop-row : goal.invariant-loop-row
invariant-loop-row l = first_some (λ (x : AssetRow). falls_short (entries_of l.spec) (entry_of l.spec l.here) x (checking_in x.role)) (drop l.row-index l.rows) ≡ falls_short_at (entries_of l.spec) (entry_of l.spec l.here)
