use Rattle.asset_locks.specs.LockMaps.{NoteKey}
use Rattle.asset_locks.proofs.Booked.{book_reduced}
use Rattle.asset_locks.proofs.book.LockBook.reduce.Goals as goal

pub returns-clause-reduced : goal.returns-clause-reduced
returns-clause-reduced c =
    let key : NoteKey = (c.args.locker.now, c.args.id.now, c.args.owner.now) in
    book_reduced _ _ c.args.self.now c.self.view_is _ key c.args.amount c.note_in-noted.result c.note_in-noted.ensures c.lower_note.ensures
