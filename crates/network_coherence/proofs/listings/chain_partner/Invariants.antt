use Rattle.std.proofs.Common.{◌≡◌, drop}
use Rattle.trust_tables.specs.declared.rows.AssetRow.{AssetRow}
use Rattle.law_coherence.specs.Causes.{first_some, partner_unlisted}
use Rattle.network_coherence.specs.Answers.{document_table, tables_in}
use Rattle.network_coherence.specs.Parts.{partners_unlisted_at}
use Rattle.network_coherence.proofs.listings.chain_partner.Given as goal

abbrev pub invariant-loop-row : goal.invariant-loop-row
invariant-loop-row l = first_some (λ (x : AssetRow). partner_unlisted (tables_in l.spec) (document_table l.spec l.here) x x.role) (drop l.row-index l.rows) ≡ partners_unlisted_at (tables_in l.spec) (document_table l.spec l.here)
