-- Why one asset isn't moved into an account, or out of it; `None` in place of an account is a location that has none. Source: xcm-executor's asset transactors; the order of the causes is
-- this project's own rule.
use Rattle.std.specs.Prelude.{ℕ, ◌+◌, Bool, true, false, is_some, nat_lt, if◌then◌else◌, List, [], ◌∷◌, Option, Some, None, Result, Ok, Err}
use Rattle.amounts.specs.Amounts.{amount}
use Rattle.asset_lists.specs.declared.units.Asset.{Asset}
use Rattle.asset_lists.specs.declared.units.Kind.{Kind}
use Rattle.asset_lists.specs.Units.{unit_of, amount_of}
use Rattle.asset_lists.specs.Listed.{same_kind}
use Rattle.ledgers.specs.Ledgers.{Held, is_barred}
use Rattle.trust_tables.specs.declared.rows.AssetRow.{AssetRow}
use Rattle.trust_tables.specs.Trust.{row_of}
use Rattle.transactors.specs.Floors.{UnitFloors}
use Rattle.transactors.specs.declared.faults.MoveFault.{MoveFault}
use Rattle.transactors.specs.declared.faults.MoveFault.TheVariants.{NotHandled, NoAccount, Refused, Memory}

-- the answer of a check that finds this fault, or none
abbrev pub accepted : Option MoveFault → Result (Unit {0}) MoveFault
accepted None = Ok tt
accepted (Some fault) = Err fault

-- the answer that asks for another transactor
abbrev pub is_unhandled : Result (Unit {0}) MoveFault → Bool
is_unhandled (Ok done) = false
is_unhandled (Err NotHandled) = true
is_unhandled (Err NoAccount) = false
is_unhandled (Err Refused) = false
is_unhandled (Err Memory) = false

-- the rows of one kind
abbrev pub rows_of_kind : Kind → List AssetRow → List AssetRow
rows_of_kind kind [] = []
rows_of_kind kind (row ∷ rows) = if same_kind kind row.kind then row ∷ rows_of_kind kind rows else rows_of_kind kind rows

-- the account has less of the asset than that and its floor
abbrev pub is_short_of : UnitFloors → Held → List ℕ → Asset → Bool
is_short_of floors held who a = nat_lt (amount held (who, unit_of a)) (amount_of a + floors who (unit_of a))

-- a row must list the asset, there must be an account, and then the account decides
abbrev pub account_fault : Option (List ℕ) → (List ℕ → Bool) → Option MoveFault
account_fault None refused = Some NoAccount
account_fault (Some who) refused = if refused who then Some Refused else None

abbrev pub move_fault : Bool → Option (List ℕ) → (List ℕ → Bool) → Option MoveFault
move_fault handled account refused = if handled then account_fault account refused else Some NotHandled

-- why a deposit of the asset alone is refused; None where it isn't
abbrev pub check_in : List AssetRow → Held → Option (List ℕ) → Asset → Option MoveFault
check_in rows held account a = move_fault (is_some (row_of rows a)) account (λ who. is_barred held who a)

-- why a withdrawal of the asset alone is refused; None where it isn't
abbrev pub check_out : List AssetRow → UnitFloors → Held → Option (List ℕ) → Asset → Option MoveFault
check_out rows floors held account a = move_fault (is_some (row_of rows a)) account (λ who. is_short_of floors held who a)
