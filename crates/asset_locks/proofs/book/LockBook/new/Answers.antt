use Rattle.asset_locks.proofs.Booked.{nothing_locked}
use Rattle.asset_locks.proofs.book.LockBook.new.Goals as goal

pub returns : goal.returns
returns c = nothing_locked c.new.result.items c.new-2.result.entries c.new.ensures.items c.new-2.ensures.empty
