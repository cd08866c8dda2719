-- Moving an amount of one unit between accounts of a ledger. This project's own rule.
use Rattle.std.specs.Prelude.{◌≡◌, ℕ, ◌+◌, ◌-◌, ◌^◌, ◌||◌, nat_le, if◌then◌else◌, List, Option, Some, None, Result, Ok, Err}
use Rattle.amounts.specs.Amounts.{amount}
use Rattle.asset_lists.specs.Units.{Unit}
use Rattle.ledgers.specs.Ledgers.{Held, Accounts}
use Rattle.call_dispatch.specs.declared.faults.ShiftFault.{ShiftFault}
use Rattle.call_dispatch.specs.declared.faults.ShiftFault.TheVariants.{NoRow, NotEnough, Overflow, Memory}
use Rattle.call_dispatch.specs.Shifts.{is_same_account}
use Rattle.row_ledger.specs.AccountLaws.{moved_between}
use Rattle.row_ledger.specs.Nothing.{Nothing}

unfoldable pub unit_fault : Held → Unit → List ℕ → List ℕ → ℕ → Option ShiftFault
unit_fault held u from to n =
    if nat_le n (amount held (from, u))
    then (if is_same_account from to || nat_le (amount held (to, u) + n) (2 ^ 128 - 1) then None
    else Some (Overflow (amount held (to, u))))
    else Some (NotEnough (amount held (from, u)))

abbrev pub moved_unit : Accounts → Unit → List ℕ → List ℕ → ℕ → Accounts
moved_unit ledger u from to n =
    record { listed = ledger.listed; held = moved_between ledger.held u from to n }

-- moved, or refused, and then nothing changed; memory is refused only to a move that nothing else forbids
abbrev pub MovesUnit : Option ShiftFault → Accounts → Accounts → Result Nothing ShiftFault → Accounts
    → Type 0
MovesUnit fault after before (Ok _) now = (fault ≡ None) × (now ≡ after)
MovesUnit fault after before (Err NoRow) now = ⊥
MovesUnit fault after before (Err (NotEnough have)) now =
    (fault ≡ Some (NotEnough have)) × (now ≡ before)
MovesUnit fault after before (Err (Overflow have)) now = (fault ≡ Some (Overflow have)) × (now ≡ before)
MovesUnit fault after before (Err Memory) now = (fault ≡ None) × (now ≡ before)
