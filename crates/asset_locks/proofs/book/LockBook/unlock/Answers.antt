use Rattle.std.proofs.Common.{ap, ◌∙◌}
use Rattle.asset_locks.specs.LockMaps.{LockKey}
use Rattle.asset_locks.specs.LockRows.{locked_amount_in}
use Rattle.asset_locks.proofs.Booked.{book_unlocked}
use Rattle.asset_locks.proofs.book.LockBook.unlock.Goals as goal

pub returns-clause-unlocked : goal.returns-clause-unlocked
returns-clause-unlocked c =
    let key : LockKey = (c.args.who.now, c.args.id.now, c.args.unlocker.now) in
    book_unlocked _ _ c.args.self.now c.self.view_is _ key c.args.amount c.lock_in-have.result (c.lock_in-have.ensures ∙ ap (λ xs. locked_amount_in xs key) c.as_slice.ensures.value) c.lower_lock.ensures.lowered
