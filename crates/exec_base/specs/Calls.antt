-- What a call that is dispatched for an account leaves of a chain. This project's own rule.
use Rattle.std.specs.Prelude.{◌≡◌, ℕ, Bool, true, false, if◌then◌else◌, List, [], ◌∷◌, ◌++◌, slice_get, Result, Ok, Err}
use Rattle.std.specs.declared.alloc.AllocError.{AllocError}
use Rattle.ledgers.specs.Ledgers.{Held}
use Rattle.call_dispatch.specs.declared.call.Call.TheVariants.{Remark, Transfer, Fail, Batch}
use Rattle.call_dispatch.specs.declared.end.CallEnd.{CallEnd}
use Rattle.call_dispatch.specs.declared.end.CallEnd.TheVariants.{Success, Error}
use Rattle.call_dispatch.specs.Spelling.{AnyCall}
use Rattle.call_dispatch.specs.Shifts.{Floors}
use Rattle.row_ledger.specs.RowAccounts.{is_fungible_row, unit_at}
use Rattle.row_ledger.specs.Calls.{call_end, held_called, IsHeldInPart}
use Rattle.exec_base.specs.declared.event.Event.{Event}
use Rattle.exec_base.specs.Part.{ChainPart}
use Rattle.exec_base.specs.Host.{floor_of}

-- what accounts must keep: what is locked there of a fungible row
abbrev pub floors_of : ChainPart → Floors
floors_of p k = if is_fungible_row (slice_get p.rows k.1) then floor_of p k.0 (unit_at p.rows k.1) else 0

abbrev pub call_index : AnyCall → ℕ
call_index (Remark bytes) = 0
call_index (Transfer row dest amount) = 1
call_index (Fail code) = 2
call_index (Batch items) = 3

abbrev pub is_success : CallEnd → Bool
is_success Success = true
is_success (Error code) = false

-- how it ends
unfoldable pub dispatch_end : ChainPart → List ℕ → AnyCall → CallEnd
dispatch_end p who c = call_end p.rows p.held (floors_of p) who c

-- what accounts then hold
abbrev pub held_dispatched : ChainPart → List ℕ → AnyCall → Held
held_dispatched p who c = held_called p.rows p.held (floors_of p) who c

-- the line that tells of it
abbrev pub call_line : ChainPart → List ℕ → AnyCall → Event
call_line p who c = Event.Called (call_index c) (is_success (dispatch_end p who c))

-- accounts change, and the line is kept back
unfoldable pub dispatched : ChainPart → List ℕ → AnyCall → ChainPart
dispatched p who c = record p {
  held = held_dispatched p who c;
  pending_events = p.pending_events ++ call_line p who c ∷ [];
}

-- where memory was refused: a prefix of a batch was done, and no line is kept back
pub record IsDispatchedInPart (p : ChainPart) (who : List ℕ) (c : AnyCall) (now : ChainPart)
    : Type 0 where
  pub held : Held
  pub in_part : IsHeldInPart p.rows p.held (floors_of p) who c held
  pub is : now ≡ record p { held = held }

-- an answer, or out of memory on the way
abbrev pub GivesOrStops : {A : Type 0} → A → ChainPart → (ChainPart → Type 0) → Result A AllocError
    → ChainPart → Type 0
GivesOrStops answer after stopped (Ok out) now = (out ≡ answer) × (now ≡ after)
GivesOrStops answer after stopped (Err _) now = stopped now

-- on a chain that serves no calls nothing changes, whatever is answered
abbrev pub Dispatches : Bool → ChainPart → List ℕ → AnyCall → Result CallEnd AllocError
    → ChainPart → Type 0
Dispatches true p who c result now =
    GivesOrStops (dispatch_end p who c) (dispatched p who c) (IsDispatchedInPart p who c) result now
Dispatches false p who c result now = now ≡ p
