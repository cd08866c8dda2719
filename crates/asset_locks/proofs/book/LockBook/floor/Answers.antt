use Rattle.std.proofs.Common.{ap}
use Rattle.asset_locks.specs.LockMaps.{LocksAndNotes}
use Rattle.asset_locks.proofs.Booked.{book_floor}
use Rattle.asset_locks.proofs.book.LockBook.floor.Goals as goal

pub returns : goal.returns
returns c = book_floor c.self.inside.locks.items c.self.invariant c.args.self.now (ap (λ (l : LocksAndNotes). l.locks) c.self.view_is) c.as_slice.result.now c.as_slice.ensures.value c.args.who.now c.args.id.now c.greatest_of.result c.greatest_of.ensures.greatest
