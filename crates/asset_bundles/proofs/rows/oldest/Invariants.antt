use Rattle.asset_bundles.proofs.Searching.{IsAhead}
use Rattle.asset_bundles.proofs.rows.oldest.Given as goal

abbrev pub invariant-loop-key : goal.invariant-loop-key
invariant-loop-key l = IsAhead l.list l.origin l.rows.entries l.sought l.key-iterator
