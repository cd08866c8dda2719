use Rattle.std.proofs.Common.{◌≡◌, drop}
use Rattle.law_coherence.specs.Causes.{entry_tables}
use Rattle.network_coherence.specs.Answers.{entries_in, tables_in}
use Rattle.network_coherence.specs.Parts.{paths_twice}
use Rattle.network_coherence.proofs.listings.path_twice.Given as goal

abbrev pub invariant-loop-chain : goal.invariant-loop-chain
invariant-loop-chain l = paths_twice (entry_tables (entries_in l.spec (drop l.chain-index l.chains))) ≡ paths_twice (tables_in l.spec)
