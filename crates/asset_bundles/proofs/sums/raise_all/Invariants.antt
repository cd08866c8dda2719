use Rattle.std.proofs.Common.{◌≡◌}
use Rattle.asset_bundles.specs.Sums.{raised_sum_row}
use Rattle.asset_bundles.proofs.Mapped.{front_mapped}
use Rattle.asset_bundles.proofs.sums.raise_all.Given as goal

abbrev pub invariant-loop-row : goal.invariant-loop-row
invariant-loop-row l = l.rows ≡ front_mapped (raised_sum_row l.goods) l.row-index l.fn.rows
