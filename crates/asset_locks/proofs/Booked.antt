-- A book of locks after one of its two maps is another.
use Rattle.std.proofs.Common.{◌≡◌, ℕ, ◌-◌, Result, Ok, Err, OnOk, List, [], map, refl, sym, ap, ◌∙◌}
use Rattle.std.specs.Prelude.{max}
use Rattle.std.specs.declared.cmp.Ordering.{Ordering}
use Rattle.amounts.proofs.Lemmas.Rows.{IsKeyOrder}
use Rattle.amounts.specs.Entries.{from_entries}
use Rattle.amounts.specs.Amounts.{empty, amount, rows, with_amount, minus}
use Rattle.asset_locks.specs.declared.lock.Lock.{Lock}
use Rattle.locations.specs.declared.relative.Location.{Location}
use Rattle.asset_locks.specs.Greatest.{greatest_in, greatest_amount}
use Rattle.asset_locks.specs.LockMaps.{LockKey, NoteKey, Locks, Notes, LocksAndNotes, no_locks, is_lock_of, floor, lock_of, locks_of, Locked, Unlocked, Noted, Reduced}
use Rattle.asset_locks.specs.LockRows.{lock_row_of, locks_in, AreSortedLocks}
use Rattle.asset_locks.specs.NoteRows.{notes_in}
use Rattle.asset_locks.proofs.Lemmas.{lock_keys, note_keys}
use Rattle.asset_locks.proofs.Standing.{rows_in, locks_back}

pub on_ok : {A E : Type 0} (r : Result A E) (P Q : Type 0) → (P → Q) → OnOk r P → OnOk r Q
on_ok (Ok a) P Q f h = f h
on_ok (Err e) P Q f h = tt

module _ (locks : Locks) (notes : Notes) (l : LocksAndNotes) (view : ◌≡◌ {A = LocksAndNotes} (record { locks = locks; notes = notes }) l) where
  pub book_locked : (new : Locks) (key : LockKey) (a : ℕ) → new ≡ with_amount locks key (max (amount locks key) a) → ◌≡◌ {A = LocksAndNotes} (record { locks = new; notes = notes }) (Locked key a l)
  unfolding Locked
  book_locked new key a is = (λ i. record { locks = is i; notes = notes }) ∙ ap (λ (b : LocksAndNotes). record b { locks = with_amount b.locks key (max (amount b.locks key) a) }) view

  pub book_unlocked : (new : Locks) (key : LockKey) (a have : ℕ) → have ≡ amount locks key → new ≡ with_amount locks key (have - a) → ◌≡◌ {A = LocksAndNotes} (record { locks = new; notes = notes }) (Unlocked key a l)
  unfolding Unlocked minus
  book_unlocked new key a have told is = (λ i. record { locks = (is ∙ ap (λ n. with_amount locks key (n - a)) told) i; notes = notes }) ∙ ap (λ (b : LocksAndNotes). record b { locks = minus b.locks key a }) view

  pub book_noted : (new : Notes) (key : NoteKey) (a : ℕ) → new ≡ with_amount notes key (max (amount notes key) a) → ◌≡◌ {A = LocksAndNotes} (record { locks = locks; notes = new }) (Noted key a l)
  unfolding Noted
  book_noted new key a is = (λ i. record { locks = locks; notes = is i }) ∙ ap (λ (b : LocksAndNotes). record b { notes = with_amount b.notes key (max (amount b.notes key) a) }) view

  pub book_reduced : (new : Notes) (key : NoteKey) (a have : ℕ) → have ≡ amount notes key → new ≡ with_amount notes key (have - a) → ◌≡◌ {A = LocksAndNotes} (record { locks = locks; notes = new }) (Reduced key a l)
  unfolding Reduced minus
  book_reduced new key a have told is = (λ i. record { locks = locks; notes = (is ∙ ap (λ n. with_amount notes key (n - a)) told) i }) ∙ ap (λ (b : LocksAndNotes). record b { notes = minus b.notes key a }) view

module _ (items : List Lock) (order : AreSortedLocks items) (l : LocksAndNotes) (view : locks_in items ≡ l.locks) where
  pub book_floor : (slice : List Lock) → slice ≡ items → (who : List ℕ) (id : Location) (n : ℕ) → n ≡ greatest_in (is_lock_of (who, id)) (map lock_row_of slice) → n ≡ floor who id l
  unfolding floor greatest_amount
  book_floor slice same who id n is =
      is ∙ ap (λ xs. greatest_in (is_lock_of (who, id)) (map lock_row_of xs)) same ∙ ap (greatest_in (is_lock_of (who, id))) (sym (rows_in items order)) ∙ ap (λ m. greatest_in (is_lock_of (who, id)) (rows m)) view

  pub book_locks : (slice : List Lock) → slice ≡ items → slice ≡ locks_of l
  book_locks slice same = same ∙ sym (locks_back items) ∙ ap (map lock_of) (sym (rows_in items order)) ∙ ap (λ m. map lock_of (rows m)) view

no_entries : {K : Type 0} {R : K → K → Ordering} (o : IsKeyOrder R) → from_entries {R = R} [] ≡ empty
unfolding from_entries
no_entries o = refl

pub nothing_locked : (items : List Lock) (entries : List (NoteKey × ℕ)) → items ≡ [] → entries ≡ [] → ◌≡◌ {A = LocksAndNotes} (record { locks = locks_in items; notes = notes_in entries }) no_locks
nothing_locked items entries none nothing = λ i. record { locks = (ap locks_in none ∙ no_entries lock_keys) i; notes = (ap notes_in nothing ∙ no_entries note_keys) i }
