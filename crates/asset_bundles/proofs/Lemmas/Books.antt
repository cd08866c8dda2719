-- Lemmas on the definitions of `specs/Books.antt`: what proofs cite.
use Rattle.std.specs.Prelude.{Bool}
use Rattle.std.specs.Ordering.{eq_by_cmp}
use Rattle.asset_lists.specs.Listed.{Listed, listed_cmp}
use Rattle.asset_bundles.specs.Books.{Burn, is_burn_where}

abbrev pub is_burn_of : Listed → Burn → Bool
is_burn_of k = is_burn_where (eq_by_cmp listed_cmp k)
