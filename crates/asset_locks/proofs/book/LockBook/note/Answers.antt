use Rattle.asset_locks.specs.LockMaps.{NoteKey}
use Rattle.asset_locks.proofs.Booked.{on_ok, book_noted}
use Rattle.asset_locks.proofs.book.LockBook.note.Goals as goal

pub returns-clause-noted : goal.returns-clause-noted
returns-clause-noted c =
    let key : NoteKey = (c.args.locker.now, c.args.id.now, c.args.owner.now) in
    on_ok c.raise_note.result _ _ (book_noted _ _ c.args.self.now c.self.view_is _ key c.args.amount) c.raise_note.ensures.raised
