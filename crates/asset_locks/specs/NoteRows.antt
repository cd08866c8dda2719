-- The notes as the code keeps them.
use Rattle.std.specs.Prelude.{ℕ, List}
use Rattle.amounts.specs.Amounts.{amount}
use Rattle.amounts.specs.Entries.{from_entries}
use Rattle.asset_locks.specs.LockMaps.{NoteKey, Notes}

abbrev pub notes_in : List (NoteKey × ℕ) → Notes
notes_in rows = from_entries rows

abbrev pub note_at : List (NoteKey × ℕ) → NoteKey → ℕ
note_at rows key = amount (notes_in rows) key
