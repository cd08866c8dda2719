-- Amounts in memory, as a map.
use Rattle.std.specs.Prelude.{ℕ, List, if◌then◌else◌}
use Rattle.std.specs.Ordering.{eq_by_cmp}
use Rattle.amounts.specs.Entries.{from_entries}
use Rattle.call_dispatch.specs.Shifts.{AccountRow, account_row_cmp, RowAmounts, Floors}

unfoldable pub amounts_in : List (AccountRow × ℕ) → RowAmounts
amounts_in rows = from_entries rows

-- one account must keep something of one row
abbrev pub one_floor : AccountRow → ℕ → Floors
one_floor keeper floor k = if eq_by_cmp account_row_cmp k keeper then floor else 0
