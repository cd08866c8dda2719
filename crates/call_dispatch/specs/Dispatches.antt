-- What a call does for an account: the next map of (account, row) to amount, and the answer. This project's own rule.
--     dispatch m floors rows who c      rows: those that are there and fungible; floors: what must stay of them
--     HasDone m floors rows who items now      all of these items were done, one after another, and none failed
--     IsInterrupted m floors rows who c now      the state where memory was refused
--     MayStop m floors rows who c now      that it can be refused there
use Rattle.std.specs.Prelude.{◌≡◌, ◌==◌, ℕ, Bool, false, List, [], ◌∷◌, ◌++◌, Option, Some, None}
use Rattle.std.specs.List.{list_any}
use Rattle.amounts.specs.Amounts.{total}
use Rattle.call_dispatch.specs.declared.call.Call.{Call}
use Rattle.call_dispatch.specs.declared.call.Call.TheVariants.{Remark, Transfer, Fail, Batch}
use Rattle.call_dispatch.specs.declared.end.CallEnd.{CallEnd}
use Rattle.call_dispatch.specs.declared.end.CallEnd.TheVariants.{Success, Error}
use Rattle.call_dispatch.specs.declared.faults.ShiftFault.{ShiftFault}
use Rattle.call_dispatch.specs.declared.faults.ShiftFault.TheVariants.{NoRow, NotEnough, Overflow, Memory}
use Rattle.call_dispatch.specs.Spelling.{Item, AnyCall}
use Rattle.call_dispatch.specs.Shifts.{AccountRow, RowAmounts, Floors, shift_fault, shifted}

-- the next map, and the answer
abbrev pub Done : Type 0
Done = RowAmounts × CallEnd

-- the causes by their order; out of memory is no answer of a call
abbrev pub fault_code : ShiftFault → ℕ
fault_code NoRow = 1
fault_code (NotEnough have) = 2
fault_code (Overflow have) = 3
fault_code Memory = 4

-- moved, unless there is a fault
abbrev pub moved_unless : Option ShiftFault → RowAmounts → RowAmounts → Done
moved_unless None after before = (after, Success)
moved_unless (Some fault) after before = (before, Error (fault_code fault))

-- by what a batch does
abbrev pub done_by : {B : Type 0} → (RowAmounts → B → Done) → RowAmounts → Floors → List ℕ → List ℕ
    → Call B → Done
done_by batch m floors rows who (Remark bytes) = (m, Success)
done_by batch m floors rows who (Transfer row dest n) =
    moved_unless (shift_fault m floors rows row who dest n) (shifted m row who dest n) m
done_by batch m floors rows who (Fail code) = (m, Error code)
done_by batch m floors rows who (Batch items) = batch m items

-- there is no batch in an item
unfoldable pub dispatch_item : RowAmounts → Floors → List ℕ → List ℕ → Item → Done
dispatch_item = done_by (λ m none. (m, Success))

-- what comes next; or an answer, and then the map is the first one
abbrev pub next_or : RowAmounts → Done → (RowAmounts → Done) → Done
next_or first (now, Success) next = next now
next_or first (now, Error code) next = (first, Error code)

-- One item after another. Where one fails, the map is the first one.
unfoldable pub dispatch_items : RowAmounts → RowAmounts → Floors → List ℕ → List ℕ → List Item
    → Done
dispatch_items first m floors rows who [] = (m, Success)
dispatch_items first m floors rows who (i ∷ items) =
    next_or first (dispatch_item m floors rows who i)
    (λ now. dispatch_items first now floors rows who items)

unfoldable pub dispatch : RowAmounts → Floors → List ℕ → List ℕ → AnyCall → Done
dispatch m floors rows who =
    done_by (λ first items. dispatch_items first first floors rows who items) m floors rows who

-- ---- where memory is refused
-- all of these items were done, and none failed
abbrev pub HasDone : RowAmounts → Floors → List ℕ → List ℕ → List Item → RowAmounts → Type 0
HasDone m floors rows who items now = dispatch_items m m floors rows who items ≡ (now, Success)

abbrev pub items_of : AnyCall → List Item
items_of (Remark bytes) = []
items_of (Transfer row dest n) = []
items_of (Fail code) = []
items_of (Batch items) = items

-- a prefix of these items was done, and no more
pub record HasDoneFront (m : RowAmounts) (floors : Floors) (rows who : List ℕ) (items : List Item)
    (now : RowAmounts) : Type 0 where
  pub front : List Item
  pub back : List Item
  pub all : items ≡ front ++ back
  pub done : HasDone m floors rows who front now

-- a prefix of the batch was done, and no more; no other call is done in part
abbrev pub IsInterrupted : RowAmounts → Floors → List ℕ → List ℕ → AnyCall → RowAmounts → Type 0
IsInterrupted m floors rows who c now = HasDoneFront m floors rows who (items_of c) now

-- memory was refused inside a batch: its first calls were done, maybe none, and not all
pub record IsStoppedInside (m : RowAmounts) (floors : Floors) (rows who : List ℕ)
    (items : List Item) (now : RowAmounts) : Type 0 where
  pub front : List Item
  pub next : Item
  pub rest : List Item
  pub all : items ≡ front ++ next ∷ rest
  pub done : HasDone m floors rows who front now

-- memory can be refused only to a move that nothing else forbids, and inside a batch
abbrev pub MayStop : RowAmounts → Floors → List ℕ → List ℕ → AnyCall → RowAmounts → Type 0
MayStop m floors rows who (Remark bytes) now = ⊥
MayStop m floors rows who (Transfer row dest n) now = shift_fault m floors rows row who dest n ≡ None
MayStop m floors rows who (Fail code) now = ⊥
MayStop m floors rows who (Batch items) now = IsStoppedInside m floors rows who items now

-- ---- rows
-- what all accounts have of a row
abbrev pub sum_of_row : RowAmounts → ℕ → ℕ
sum_of_row m row = total (λ (k : AccountRow). k.1 == row) m

-- the call is to move something of the row
abbrev pub item_names : Item → ℕ → Bool
item_names (Remark bytes) other = false
item_names (Transfer row dest n) other = row == other
item_names (Fail code) other = false
item_names (Batch none) other = false

abbrev pub names_row : AnyCall → ℕ → Bool
names_row (Remark bytes) other = false
names_row (Transfer row dest n) other = row == other
names_row (Fail code) other = false
names_row (Batch items) other = list_any (λ (i : Item). item_names i other) items

-- ---- what no call changes
pub record IsBeside {Other : Type 0} (low new_low : Floors) (list new_list : List ℕ)
    (more new_more : Other) : Type 0 where
  pub floors : new_low ≡ low
  pub rows : new_list ≡ list
  pub other : new_more ≡ more
