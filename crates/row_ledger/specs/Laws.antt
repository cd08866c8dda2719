-- Lemmas: what a ledger's transfer of one asset is. A reader may skip this file.
use Rattle.std.proofs.Common.{◌≤◌, arith}
use Rattle.amounts.specs.Amounts.{amount}
use Rattle.call_dispatch.specs.Shifts.{AccountRow, RowAmounts}
use Rattle.row_ledger.specs.RowAccounts.{no_floors}

pub nothing_kept : (m : RowAmounts) (k : AccountRow) → no_floors k ≤ amount m k
nothing_kept m k = omega arith
