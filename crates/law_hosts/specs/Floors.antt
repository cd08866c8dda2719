-- What accounts must keep of what is locked on them. This project's own rule.
use Rattle.std.specs.Prelude.{◌≡◌, ℕ, ◌≤◌, true, List}
use Rattle.amounts.specs.Amounts.{amount}
use Rattle.asset_lists.specs.Units.{Unit}
use Rattle.asset_locks.specs.LockMaps.{LockKey, LocksAndNotes, lock_at}
use Rattle.ledgers.specs.Ledgers.{Held}
use Rattle.asset_pools.specs.declared.pool.Pool.{Pool}
use Rattle.asset_pools.specs.Exchanges.{is_pool_account}
use Rattle.exec_base.specs.Part.{ChainPart}
use Rattle.asset_locks.specs.UnitFloors.{floor_at}

-- each account has at least its floor of each unit
abbrev pub HasFloors : LocksAndNotes → Held → Type 0
HasFloors locked held = (who : List ℕ) (unit : Unit)
    → floor_at locked who unit.0 unit.1 ≤ amount held (who, unit)

abbrev pub HoldsFloors : ChainPart → Type 0
HoldsFloors p = HasFloors p.locked p.held

-- no account of a pool has a lock, so what it has is all its own to give
abbrev pub NoPoolLocks : List Pool → LocksAndNotes → Type 0
NoPoolLocks pools locked =
    (key : LockKey) → is_pool_account pools key.0 ≡ true → lock_at key locked ≡ 0

abbrev pub FreesPools : ChainPart → Type 0
FreesPools p = NoPoolLocks p.pools p.locked
