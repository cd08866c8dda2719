use Rattle.std.proofs.Common.{◌≡◌, drop}
use Rattle.law_coherence.specs.Causes.{entry_tables}
use Rattle.network_coherence.specs.Answers.{entries_in, tables_in}
use Rattle.network_coherence.specs.Parts.{reserves_unlisted}
use Rattle.network_coherence.proofs.listings.reserve_unlisted.Given as goal

abbrev pub invariant-loop-here : goal.invariant-loop-here
invariant-loop-here l = reserves_unlisted (tables_in l.spec) (entry_tables (entries_in l.spec (drop l.here-index l.chains))) ≡ reserves_unlisted (tables_in l.spec) (tables_in l.spec)
