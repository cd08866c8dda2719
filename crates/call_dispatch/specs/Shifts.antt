-- Amounts by an account and the number of an asset's row, and moving them. This project's own rule.
--     AccountRow      an account, by its bytes, and the number of a row
--     RowAmounts      a map of (account, row) to amount
--     Floors      what must stay with an account of a row
--     spare m floors k      what may be given: the amount less its floor
--     shift_fault m floors rows row from to n      why n of the row isn't moved from one account to the other, or none
--     shifted m row from to n      the map once it is moved
--     AreKept m floors      a floor is at most its amount
use Rattle.std.specs.Prelude.{◌≡◌, ℕ, ◌+◌, ◌-◌, ◌^◌, ◌<◌, ◌≤◌, ◌==◌, ◌||◌, nat_le, Bool, if◌then◌else◌, List, Option, Some, None, Result, Ok, Err}
use Rattle.std.specs.List.{list_any}
use Rattle.std.specs.Ordering.{nat_cmp, on, then_cmp, eq_by_cmp}
use Rattle.std.specs.declared.cmp.Ordering.{Ordering}
use Rattle.std.specs.Cmp.Lexicographic.{slice_cmp}
use Rattle.amounts.specs.Amounts.{Amounts, amount, plus, minus}
use Rattle.call_dispatch.specs.declared.faults.ShiftFault.{ShiftFault}
use Rattle.call_dispatch.specs.declared.faults.ShiftFault.TheVariants.{NoRow, NotEnough, Overflow, Memory}

-- an account, by its bytes, and the number of a row
abbrev pub AccountRow : Type 0
AccountRow = List ℕ × ℕ

-- by account, then by row
abbrev pub account_row_cmp : AccountRow → AccountRow → Ordering
account_row_cmp =
    then_cmp (on (λ (k : AccountRow). k.0) (slice_cmp nat_cmp))
    (on (λ (k : AccountRow). k.1) nat_cmp)

abbrev pub RowAmounts : Type 0
RowAmounts = Amounts account_row_cmp

abbrev pub Floors : Type 0
Floors = AccountRow → ℕ

abbrev pub is_listed_row : List ℕ → ℕ → Bool
is_listed_row rows row = list_any (λ (r : ℕ). r == row) rows

abbrev pub is_same_account : List ℕ → List ℕ → Bool
is_same_account a b = eq_by_cmp (slice_cmp nat_cmp) a b

abbrev pub spare : RowAmounts → Floors → AccountRow → ℕ
spare m floors k = amount m k - floors k

unfoldable pub shift_fault : RowAmounts → Floors → List ℕ → ℕ → List ℕ → List ℕ → ℕ
    → Option ShiftFault
shift_fault m floors rows row from to n =
    if is_listed_row rows row
    then (if nat_le n (spare m floors (from, row))
    then (if is_same_account from to || nat_le (amount m (to, row) + n) (2 ^ 128 - 1) then None
    else Some (Overflow (amount m (to, row))))
    else Some (NotEnough (spare m floors (from, row))))
    else Some NoRow

unfoldable pub shifted : RowAmounts → ℕ → List ℕ → List ℕ → ℕ → RowAmounts
shifted m row from to n = plus (minus m (from, row) n) (to, row) n

-- moved, or refused, and then nothing changed; memory is refused only to a move that nothing else forbids
abbrev pub Shifts : Option ShiftFault → RowAmounts → RowAmounts → Result (Unit {0}) ShiftFault
    → RowAmounts → Type 0
Shifts fault after before (Ok _) now = (fault ≡ None) × (now ≡ after)
Shifts fault after before (Err NoRow) now = (fault ≡ Some NoRow) × (now ≡ before)
Shifts fault after before (Err (NotEnough have)) now =
    (fault ≡ Some (NotEnough have)) × (now ≡ before)
Shifts fault after before (Err (Overflow have)) now =
    (fault ≡ Some (Overflow have)) × (now ≡ before)
Shifts fault after before (Err Memory) now = (fault ≡ None) × (now ≡ before)

-- an amount of 128 bits
abbrev pub IsNumberAt : RowAmounts → AccountRow → Type 0
IsNumberAt m k = amount m k < 2 ^ 128

-- a floor is at most its amount
abbrev pub AreKept : RowAmounts → Floors → Type 0
AreKept m floors = (k : AccountRow) → floors k ≤ amount m k
