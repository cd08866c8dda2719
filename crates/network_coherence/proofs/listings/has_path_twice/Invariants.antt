use Rattle.std.proofs.Common.{◌≡◌, length}
use Rattle.law_coherence.specs.Causes.{has_path_twice}
use Rattle.network_coherence.specs.Answers.{document_table}
use Rattle.network_coherence.proofs.listings.has_path_twice.Given as goal

abbrev pub invariant-loop-row : goal.invariant-loop-row
invariant-loop-row l = has_path_twice (document_table l.spec l.chain) l.rows ≡ has_path_twice (document_table l.spec l.chain) l.chain.assets

abbrev pub decreases-loop-row : goal.decreases-loop-row
decreases-loop-row l = length l.rows
