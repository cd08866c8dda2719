use Rattle.std.proofs.Common.{◌≡◌, ◌+◌, ◌≤◌}
use Rattle.std.specs.Prelude.{min}
use Rattle.asset_bundles.specs.Totals.{total_value}
use Rattle.asset_bundles.specs.Books.{most_burned}
use Rattle.asset_bundles.specs.Traps.{trapped_amount}
use Rattle.asset_bundles.proofs.sums.counted.Given as goal

abbrev pub invariant-loop-trap : goal.invariant-loop-trap
invariant-loop-trap l =
    (min (total_value l.sum + trapped_amount l.id l.kind l.trap-iterator) most_burned ≡ min (trapped_amount l.id l.kind l.traps) most_burned)
    × (total_value l.sum ≤ most_burned)
