-- Proofs that a reader skips: totals are ordered as numbers are.
use Rattle.std.specs.Cmp.{IsTotalOrder, nat_cmp_total, on_total}
use Rattle.asset_bundles.specs.Totals.{total_value, total_cmp}

pub total_total : IsTotalOrder total_cmp
total_total = on_total total_value nat_cmp_total
