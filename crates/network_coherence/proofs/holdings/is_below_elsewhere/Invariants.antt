use Rattle.std.proofs.Common.{◌≡◌, drop}
use Rattle.std.specs.Prelude.{nat_lt}
use Rattle.law_coherence.specs.Networks.{asset_of_row}
use Rattle.law_coherence.specs.Causes.{elsewhere}
use Rattle.network_steps.specs.Genesis.{entries_of}
use Rattle.network_coherence.specs.Answers.{document_table, entries_in}
use Rattle.network_coherence.proofs.holdings.is_below_elsewhere.Given as goal

abbrev pub invariant-loop-at : goal.invariant-loop-at
invariant-loop-at l = nat_lt l.left (elsewhere (asset_of_row (document_table l.spec l.here) l.row) l.here.chain (entries_in l.spec (drop l.at-index l.chains))) ≡ nat_lt l.fn.amount (elsewhere (asset_of_row (document_table l.spec l.here) l.row) l.here.chain (entries_of l.spec))
