-- What a move that isn't refused does to amounts and sums, and that it can be undone.
use Rattle.std.proofs.Common.{◌≡◌, ◌⊎◌, ℕ, ◌+◌, ◌-◌, ◌^◌, ◌≤◌, true, List}
use Rattle.amounts.specs.Amounts.{amount}
use Rattle.call_dispatch.specs.Shifts.{RowAmounts, is_same_account}

-- the two are the same account, or the sum doesn't pass 2^128-1
abbrev pub HasShiftRoom : RowAmounts → ℕ → List ℕ → List ℕ → ℕ → Type 0
HasShiftRoom m row from to n = (is_same_account from to ≡ true) ⊎ (amount m (to, row) + n ≤ 2 ^ 128 - 1)
