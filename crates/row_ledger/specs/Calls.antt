-- What a call leaves of what accounts hold, and how it ends. This project's own rule.
use Rattle.std.specs.Prelude.{◌≡◌, ℕ, List}
use Rattle.trust_tables.specs.declared.rows.AssetRow.{AssetRow}
use Rattle.ledgers.specs.Ledgers.{Held}
use Rattle.call_dispatch.specs.declared.end.CallEnd.{CallEnd}
use Rattle.call_dispatch.specs.Spelling.{AnyCall}
use Rattle.call_dispatch.specs.Shifts.{RowAmounts, Floors}
use Rattle.call_dispatch.specs.Dispatches.{Done, dispatch, IsInterrupted}
use Rattle.row_ledger.specs.RowAccounts.{fungible_rows, row_amounts, with_row_amounts}

-- the amounts of the fungible rows, and the answer
abbrev pub called : List AssetRow → Held → Floors → List ℕ → AnyCall → Done
called rows held floors who c = dispatch (row_amounts rows held) floors (fungible_rows rows) who c

abbrev pub call_end : List AssetRow → Held → Floors → List ℕ → AnyCall → CallEnd
call_end rows held floors who c = (called rows held floors who c).1

unfoldable pub held_called : List AssetRow → Held → Floors → List ℕ → AnyCall → Held
held_called rows held floors who c = with_row_amounts rows held (called rows held floors who c).0

-- what is left where memory was refused: a prefix of a batch was done
pub record IsHeldInPart (rows : List AssetRow) (held : Held) (floors : Floors) (who : List ℕ)
    (c : AnyCall) (now : Held) : Type 0 where
  pub amounts : RowAmounts
  pub interrupted : IsInterrupted (row_amounts rows held) floors (fungible_rows rows) who c amounts
  pub is : now ≡ with_row_amounts rows held amounts
