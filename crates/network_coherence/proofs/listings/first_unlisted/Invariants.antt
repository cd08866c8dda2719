use Rattle.std.proofs.Common.{◌≡◌, drop}
use Rattle.network_coherence.specs.Answers.{document_table, tables_in}
use Rattle.network_coherence.specs.Parts.{first_unlisted}
use Rattle.network_coherence.proofs.listings.first_unlisted.Given as goal

abbrev pub invariant-loop-partner : goal.invariant-loop-partner
invariant-loop-partner l = first_unlisted (tables_in l.spec) (document_table l.spec l.here) l.row (drop l.partner-index l.partners) ≡ first_unlisted (tables_in l.spec) (document_table l.spec l.here) l.row l.partners
