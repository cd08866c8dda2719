-- How much of a unit an account must keep for its locks. This project's own rule, after the lock instructions of the XCM format.
use Rattle.std.specs.Prelude.{ℕ, List, Option, None}
use Rattle.asset_lists.specs.declared.units.AssetId.{AssetId}
use Rattle.asset_lists.specs.declared.units.Instance.{Instance}
use Rattle.asset_locks.specs.LockMaps.{LocksAndNotes, floor}

-- only fungible assets are locked
abbrev pub floor_at : LocksAndNotes → List ℕ → AssetId → Option Instance → ℕ
floor_at l who (AssetId.Concrete id) None = floor who id l
floor_at l who _ _ = 0
