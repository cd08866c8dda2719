use Rattle.std.proofs.Common.{◌≡◌, ◌≤◌, ◌*◌, ◌-◌, ◌^◌, take}
use Rattle.amounts.specs.Rows.{sum_where}
use Rattle.locations.specs.Chains.{path_of}
use Rattle.asset_bundles.specs.Totals.{wide_value}
use Rattle.law_coherence.specs.UniversalAssets.{every}
use Rattle.network_coherence.specs.Balances.{balance_rows, is_held_unit_of}
use Rattle.network_coherence.proofs.balances.sum_of.Given as goal

abbrev pub invariant-loop-balance : goal.invariant-loop-balance
invariant-loop-balance l = record {
  value : wide_value l.sum ≡ sum_where (is_held_unit_of l.who l.context (path_of l.home l.row.id, l.row.kind) every) (balance_rows (take l.balance-index l.balances));
  few : wide_value l.sum ≤ l.balance-index * (2 ^ 128 - 1);
}
