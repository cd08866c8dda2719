-- How much of each unit each account must keep: this project's own rule, after the lock instructions of the XCM format.
--     UnitFloors      what each account must keep of each unit
--     no_unit_floors      nothing must be kept
--     locked_floors      what a chain's locks keep
--     higher_floors      the higher of two floors, so that both are kept
--     KeepsFloors      each account has at least its floor of each unit
use Rattle.std.specs.Prelude.{ℕ, ◌≤◌, max, List}
use Rattle.amounts.specs.Amounts.{amount}
use Rattle.asset_lists.specs.Units.{Unit}
use Rattle.asset_locks.specs.LockMaps.{LocksAndNotes}
use Rattle.asset_locks.specs.UnitFloors.{floor_at}
use Rattle.ledgers.specs.Ledgers.{Held}

-- what an account, by its bytes, must keep of a unit
abbrev pub UnitFloors : Type 0
UnitFloors = List ℕ → Unit → ℕ

-- nothing must be kept
abbrev pub no_unit_floors : UnitFloors
no_unit_floors who unit = 0

-- what is locked
abbrev pub locked_floors : LocksAndNotes → UnitFloors
locked_floors l who unit = floor_at l who unit.0 unit.1

-- what keeps both floors
abbrev pub higher_floors : UnitFloors → UnitFloors → UnitFloors
higher_floors f g who unit = max (f who unit) (g who unit)

-- each account has at least its floor of each unit
abbrev pub KeepsFloors : UnitFloors → Held → Type 0
KeepsFloors floors held = (who : List ℕ) (unit : Unit) → floors who unit ≤ amount held (who, unit)
