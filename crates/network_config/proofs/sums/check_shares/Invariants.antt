use Rattle.std.proofs.Common.{◌≡◌, take, drop, []}
use Rattle.std.specs.Prelude.{sum_by}
use Rattle.network_config.specs.Sums.{sums_in}
use Rattle.network_config.specs.Totals.{TotalKey, total_under_key}
use Rattle.network_config.proofs.Summing.{counted_at}
use Rattle.network_config.proofs.sums.check_shares.Given as goal

abbrev pub invariant-loop-share : goal.invariant-loop-share
invariant-loop-share l = record {
  sums : sums_in [] l.shares ≡ sums_in (take l.share-index l.shares) (drop l.share-index l.shares);
  totals : (q : TotalKey) → total_under_key l.totals.entries q ≡ sum_by (counted_at q) (take l.share-index l.shares);
}
