-- How a proof tells books of locks apart; a reader may skip this.
use Rattle.std.specs.Prelude.{ℕ, List, refl}
use Rattle.std.specs.FinMap as map
use Rattle.std.specs.Coded.{Coded, code_by, coded_ℕ, coded×, coded_list}
use Rattle.locations.specs.declared.relative.Location.{Location}
use Rattle.locations.specs.contracts.relative.Location.{the_row as location}
use Rattle.asset_locks.specs.LockMaps.{LockKey, NoteKey, Locks, Notes, LocksAndNotes}

abbrev pub lock_key_code : Coded LockKey
lock_key_code = code_by (List ℕ × (Location × Location)) (coded× (coded_list coded_ℕ) (coded× location.coded location.coded)) (λ k. (k.0, (k.1, k.2))) (λ p. (p.0, p.1.0, p.1.1)) (λ _. refl)

abbrev pub note_key_code : Coded NoteKey
note_key_code = code_by (Location × (Location × List ℕ)) (coded× location.coded (coded× location.coded (coded_list coded_ℕ))) (λ k. (k.0, (k.1, k.2))) (λ p. (p.0, p.1.0, p.1.1)) (λ _. refl)

abbrev pub locks_code : Coded Locks
locks_code = map.code lock_key_code coded_ℕ

abbrev pub notes_code : Coded Notes
notes_code = map.code note_key_code coded_ℕ

abbrev pub locks_and_notes_code : Coded LocksAndNotes
locks_and_notes_code = code_by (Locks × Notes) (coded× locks_code notes_code) (λ l. (l.locks, l.notes)) (λ p. record { locks = p.0; notes = p.1 }) (λ _. refl)
