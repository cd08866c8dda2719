-- The locks as the code keeps them: in the order of their keys, none of 0; and the index of the lock of a key among them.
use Rattle.std.specs.Prelude.{◌≡◌, ℕ, ◌<◌, ◌≤◌, List, map, length, T}
use Rattle.std.specs.List.{HoldsAt, AllWithin}
use Rattle.std.specs.FinMap.{is_sorted}
use Rattle.std.specs.declared.cmp.Ordering.TheVariants.{Less, Greater}
use Rattle.amounts.specs.Rows.{IsPositive}
use Rattle.amounts.specs.Amounts.{amount}
use Rattle.amounts.specs.Entries.{from_entries}
use Rattle.asset_locks.specs.declared.lock.Lock.{Lock}
use Rattle.asset_locks.specs.LockMaps.{LockKey, lock_cmp, Locks}

abbrev pub key_of : Lock → LockKey
key_of lock = (lock.who, lock.id, lock.unlocker)

abbrev pub lock_row_of : Lock → LockKey × ℕ
lock_row_of lock = (key_of lock, lock.amount)

abbrev pub locks_in : List Lock → Locks
locks_in locks = from_entries (map lock_row_of locks)

abbrev pub locked_amount_in : List Lock → LockKey → ℕ
locked_amount_in locks key = amount (locks_in locks) key

pub record AreSortedLocks (locks : List Lock) : Type 0 where
  pub rising : T (is_sorted lock_cmp (map lock_row_of locks))
  pub positive : IsPositive (map lock_row_of locks)

-- the lock of the key is at the index
pub record IsAt (locks : List Lock) (key : LockKey) (place : ℕ) : Type 0 where
  pub within : place < length locks
  pub is : HoldsAt (λ lock. key_of lock ≡ key) locks place

-- there is no lock of the key, and it would go to the index
pub record IsGapFor (locks : List Lock) (key : LockKey) (place : ℕ) : Type 0 where
  pub within : place ≤ length locks
  pub before : AllWithin (λ lock. lock_cmp (key_of lock) key ≡ Less) locks 0 place
  pub behind : AllWithin (λ lock. lock_cmp (key_of lock) key ≡ Greater) locks place (length locks)
