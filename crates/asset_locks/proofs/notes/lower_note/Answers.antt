use Rattle.std.proofs.Common.{Some, None, ap, ◌∙◌, sym}
use Rattle.amounts.specs.Amounts.{with_amount}
use Rattle.asset_locks.specs.LockMaps.{NoteKey}
use Rattle.asset_locks.specs.NoteRows.{notes_in}
use Rattle.asset_locks.proofs.Noting.{note_written, note_absent}
use Rattle.asset_locks.proofs.notes.lower_note.Goals as goal

pub returns-then-amount-eq0 : goal.returns-then-amount-eq0
returns-then-amount-eq0 c =
    let rows = c.args.rows.now.entries in
    let key : NoteKey = (c.args.locker.now, c.args.id.now, c.args.owner.now) in
    note_written rows key c.key_of-key.result c.key_of-key.ensures c.remove.new.self.entries None c.remove.ensures.updates.0 ∙ ap (with_amount (notes_in rows) key) (sym c.if-amount-eq0.true)

pub unreachable-requires : goal.unreachable-requires
unreachable-requires c =
    let rows = c.args.rows.now.entries in
    let key : NoteKey = (c.args.locker.now, c.args.id.now, c.args.owner.now) in
    c.if-amount-eq0.false (note_absent rows key c.key_of-key.result c.key_of-key.ensures c.in-Err.ensures.absent c.args.amount c.requires)

pub returns : goal.returns
returns c =
    let rows = c.args.rows.now.entries in
    let key : NoteKey = (c.args.locker.now, c.args.id.now, c.args.owner.now) in
    note_written rows key c.key_of-key.result c.key_of-key.ensures c.insert.new.self.entries (Some c.args.amount) c.in-Ok.ensures.updates.0
