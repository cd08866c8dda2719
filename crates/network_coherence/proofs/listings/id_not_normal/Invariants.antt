use Rattle.std.proofs.Common.{◌≡◌, drop}
use Rattle.law_coherence.specs.Causes.{entry_tables}
use Rattle.network_coherence.specs.Answers.{entries_in, tables_in}
use Rattle.network_coherence.specs.Parts.{ids_not_normal}
use Rattle.network_coherence.proofs.listings.id_not_normal.Given as goal

abbrev pub invariant-loop-chain : goal.invariant-loop-chain
invariant-loop-chain l = ids_not_normal (entry_tables (entries_in l.spec (drop l.chain-index l.chains))) ≡ ids_not_normal (tables_in l.spec)
