-- The locks on what a chain's accounts hold, and the chain's notes of locks that other chains hold: two finite maps.
-- It is this project's own rule, after the four lock instructions of the XCM format.
--     LockKey      an account by its bytes, an asset's id, and who may unlock it
--     NoteKey      who holds the lock, the asset's id, and the owner by its bytes
--     Locks, Notes      maps from these keys to amounts above 0
--     LocksAndNotes      the two maps of a chain
--     lock_at, floor      a lock; the greatest lock of an account and an asset, whoever may unlock it
--     noted      a note
--     Locked, Noted      a lock, a note becomes the greater of old and new
--     Unlocked, Reduced      a lock, a note falls by an amount
--     locks_of      all locks by account, asset and unlocker
use Rattle.std.specs.Prelude.{ℕ, max, Bool, List, map}
use Rattle.std.specs.Ordering.{nat_cmp, on, then_cmp, eq_by_cmp}
use Rattle.std.specs.declared.cmp.Ordering.{Ordering}
use Rattle.std.specs.Cmp.Lexicographic.{slice_cmp}
use Rattle.locations.specs.declared.relative.Location.{Location}
use Rattle.locations.specs.Order.{location_cmp}
use Rattle.amounts.specs.Amounts.{Amounts, empty, amount, rows, with_amount, minus}
use Rattle.asset_locks.specs.declared.lock.Lock.{Lock}
use Rattle.asset_locks.specs.Greatest.{greatest_amount}

-- ---- the keys, and their order
abbrev pub LockKey : Type 0
LockKey = List ℕ × Location × Location

-- an account and an asset
abbrev pub LockedAsset : Type 0
LockedAsset = List ℕ × Location

abbrev pub asset_of : LockKey → LockedAsset
asset_of k = (k.0, k.1)

-- by account, then by asset
abbrev pub locked_asset_cmp : LockedAsset → LockedAsset → Ordering
locked_asset_cmp = then_cmp (on (λ (a : LockedAsset). a.0) (slice_cmp nat_cmp)) (on (λ (a : LockedAsset). a.1) location_cmp)

-- by account, then by asset, then by unlocker
abbrev pub lock_cmp : LockKey → LockKey → Ordering
lock_cmp = then_cmp (on asset_of locked_asset_cmp) (on (λ (k : LockKey). k.2) location_cmp)

abbrev pub NoteKey : Type 0
NoteKey = Location × Location × List ℕ

-- by who holds the lock, then by asset, then by owner
abbrev pub note_cmp : NoteKey → NoteKey → Ordering
note_cmp = then_cmp (then_cmp (on (λ (k : NoteKey). k.0) location_cmp) (on (λ (k : NoteKey). k.1) location_cmp)) (on (λ (k : NoteKey). k.2) (slice_cmp nat_cmp))

-- ---- the maps
abbrev pub Locks : Type 0
Locks = Amounts lock_cmp

abbrev pub Notes : Type 0
Notes = Amounts note_cmp

pub record LocksAndNotes : Type 0 where
  pub locks : Locks
  pub notes : Notes

abbrev pub no_locks : LocksAndNotes
no_locks = record { locks = empty; notes = empty }

-- ---- what they say
-- a lock, 0 where there is none
abbrev pub lock_at : LockKey → LocksAndNotes → ℕ
lock_at key l = amount l.locks key

-- whether a lock is of the account and the asset
abbrev pub is_lock_of : LockedAsset → LockKey → Bool
is_lock_of asset key = eq_by_cmp locked_asset_cmp asset (asset_of key)

-- how much of an asset an account must keep: the greatest lock, since the same amount may be under several locks
unfoldable pub floor : List ℕ → Location → LocksAndNotes → ℕ
floor who id l = greatest_amount (is_lock_of (who, id)) l.locks

-- a note, 0 where there is none
abbrev pub noted : NoteKey → LocksAndNotes → ℕ
noted key l = amount l.notes key

abbrev pub lock_of : LockKey × ℕ → Lock
lock_of row = record { who = row.0.0; id = row.0.1; unlocker = row.0.2; amount = row.1 }

-- all locks, in the order of their keys
abbrev pub locks_of : LocksAndNotes → List Lock
locks_of l = map lock_of (rows l.locks)

-- ---- the four changes
-- the lock becomes the greater of old and new
unfoldable pub Locked : LockKey → ℕ → LocksAndNotes → LocksAndNotes
Locked key a l = record l { locks = with_amount l.locks key (max (amount l.locks key) a) }

-- the lock falls by the amount
unfoldable pub Unlocked : LockKey → ℕ → LocksAndNotes → LocksAndNotes
Unlocked key a l = record l { locks = minus l.locks key a }

-- the note becomes the greater of old and new
unfoldable pub Noted : NoteKey → ℕ → LocksAndNotes → LocksAndNotes
Noted key a l = record l { notes = with_amount l.notes key (max (amount l.notes key) a) }

-- the note falls by the amount
unfoldable pub Reduced : NoteKey → ℕ → LocksAndNotes → LocksAndNotes
Reduced key a l = record l { notes = minus l.notes key a }
