use Rattle.std.proofs.Common.{◌≡◌, ℕ, length}
use Rattle.std.specs.Prelude.{slice_get, Some}
use Rattle.asset_bundles.specs.declared.wide_sum.WideSum.{WideSum}
use Rattle.asset_bundles.specs.Totals.{wide_value}
use Rattle.ledgers.proofs.sums.zero_sums.Given as goal

abbrev pub invariant-loop : goal.invariant-loop
invariant-loop l = (length l.sums.items ≡ l.counter) × ((k : ℕ) (s : WideSum) → slice_get l.sums.items k ≡ Some s → wide_value s ≡ 0)
