use Rattle.std.proofs.Common.{ap}
use Rattle.asset_locks.specs.LockMaps.{LocksAndNotes}
use Rattle.asset_locks.proofs.Booked.{book_locks}
use Rattle.asset_locks.proofs.book.LockBook.locks.Goals as goal

pub returns : goal.returns
returns c = book_locks c.self.inside.locks.items c.self.invariant c.args.self.now (ap (λ (l : LocksAndNotes). l.locks) c.self.view_is) c.as_slice.result.now c.as_slice.ensures.value
