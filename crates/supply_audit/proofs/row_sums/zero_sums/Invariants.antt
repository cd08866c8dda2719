use Rattle.std.proofs.Common.{◌≡◌, ℕ, length}
use Rattle.supply_audit.specs.Found.{sum_in_row}
use Rattle.supply_audit.proofs.row_sums.zero_sums.Given as goal

abbrev pub invariant-loop : goal.invariant-loop
invariant-loop l = (length l.sums.items ≡ l.counter) × ((row : ℕ) → sum_in_row l.sums.items row ≡ 0)
