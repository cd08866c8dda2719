use Rattle.std.proofs.Common.{ℕ, ◌≡◌, ◌<◌, ◌≤◌, Some, ap, ◌∙◌, arith}
use Rattle.std.specs.Prelude.{max}
use Rattle.amounts.specs.Amounts.{with_amount}
use Rattle.asset_locks.specs.LockMaps.{NoteKey}
use Rattle.asset_locks.specs.NoteRows.{notes_in}
use Rattle.asset_locks.proofs.Lemmas.{note_keys}
use Rattle.asset_locks.proofs.Standing.{as_raised}
use Rattle.asset_locks.proofs.Noting.{note_read, note_written}
use Rattle.asset_locks.proofs.notes.raise_note.Goals as goal

greater : (a n m : ℕ) → n < a → n ≡ m → a ≡ max m a
greater a n m lt is = omega (arith, lt, is)

no_greater : (a n m : ℕ) → a ≤ n → n ≡ m → a ≤ m
no_greater a n m le is = omega (arith, le, is)

pub returns-in_ok-insert-clause-raised : goal.returns-in_ok-insert-clause-raised
returns-in_ok-insert-clause-raised c =
    let rows = c.args.rows.now.entries in
    let key : NoteKey = (c.args.locker.now, c.args.id.now, c.args.owner.now) in
    note_written rows key c.key_of-key.result c.key_of-key.ensures c.insert.new.self.entries (Some c.args.amount) c.in_ok-insert.ensures.updates.0
    ∙ ap (with_amount (notes_in rows) key) (greater c.args.amount _ _ c.if-amount-unwrap_or.true (c.unwrap_or.ensures ∙ note_read c.args.rows.now.entries (c.args.locker.now, c.args.id.now, c.args.owner.now) c.key_of-key.result c.key_of-key.ensures c.copied.result (c.copied.ensures ∙ c.get.ensures.value)))

pub returns-else-amount-unwrap_or-clause-raised : goal.returns-else-amount-unwrap_or-clause-raised
returns-else-amount-unwrap_or-clause-raised c =
    let key : NoteKey = (c.args.locker.now, c.args.id.now, c.args.owner.now) in
    as_raised note_keys (notes_in c.args.rows.now.entries) key c.args.amount (no_greater c.args.amount _ _ c.if-amount-unwrap_or.false (c.unwrap_or.ensures ∙ note_read c.args.rows.now.entries (c.args.locker.now, c.args.id.now, c.args.owner.now) c.key_of-key.result c.key_of-key.ensures c.copied.result (c.copied.ensures ∙ c.get.ensures.value)))
