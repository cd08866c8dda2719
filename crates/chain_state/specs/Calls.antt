-- What no call of the chain changes, and what an account lacks for it. This project's own.
use Rattle.std.specs.Prelude.{ℕ, nat_le, if◌then◌else◌, List, Option, Some, None, slice_get}
use Rattle.call_dispatch.specs.Shifts.{spare}
use Rattle.row_ledger.specs.RowAccounts.{is_fungible_row, row_amounts, held_aside}
use Rattle.exec_base.specs.Part.{ChainPart}
use Rattle.exec_base.specs.Calls.{floors_of}

-- the part without the amounts of fungible assets that accounts hold
abbrev pub beside_calls : ChainPart → ChainPart
beside_calls p = record p { held = held_aside p.rows p.held }

-- what an account may give of a fungible row, where that is less than the amount
abbrev pub shortage_above_floor : ChainPart → ℕ → List ℕ → ℕ → Option ℕ
shortage_above_floor p row who n =
    let may_give = spare (row_amounts p.rows p.held) (floors_of p) (who, row) in
    if is_fungible_row (slice_get p.rows row)
    then (if nat_le n may_give then None else Some may_give)
    else None
