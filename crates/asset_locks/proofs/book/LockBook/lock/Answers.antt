use Rattle.asset_locks.specs.LockMaps.{LockKey}
use Rattle.asset_locks.proofs.Booked.{on_ok, book_locked}
use Rattle.asset_locks.proofs.book.LockBook.lock.Goals as goal

pub returns-clause-locked : goal.returns-clause-locked
returns-clause-locked c =
    let key : LockKey = (c.args.who.now, c.args.id.now, c.args.unlocker.now) in
    on_ok c.raise_lock.result _ _ (book_locked _ _ c.args.self.now c.self.view_is _ key c.args.amount) c.raise_lock.ensures.raised
