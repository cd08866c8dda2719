use Rattle.std.proofs.Common.{◌≡◌, drop}
use Rattle.std.specs.Prelude.{not}
use Rattle.locations.specs.Chains.{is_normal}
use Rattle.trust_tables.specs.declared.rows.AssetRow.{AssetRow}
use Rattle.law_coherence.specs.Networks.{context_of}
use Rattle.law_coherence.specs.Causes.{IdNotNormal, first_some, when}
use Rattle.network_coherence.specs.Answers.{document_table}
use Rattle.network_coherence.specs.Parts.{id_not_normal}
use Rattle.network_coherence.proofs.listings.chain_not_normal.Given as goal

abbrev pub invariant-loop-row : goal.invariant-loop-row
invariant-loop-row l =
    first_some (λ (x : AssetRow). when (not (is_normal (context_of (document_table l.spec l.chain)) x.id)) (IdNotNormal, l.chain.chain, l.chain.chain)) (drop l.row-index l.rows)
    ≡ id_not_normal (document_table l.spec l.chain)
