use Rattle.std.proofs.Common.{sym}
use Rattle.asset_locks.specs.LockMaps.{LockKey}
use Rattle.asset_locks.proofs.Standing.{amount_at, amount_gap}
use Rattle.asset_locks.proofs.locks.lock_in.Goals as goal

pub returns-in-Ok : goal.returns-in-Ok
returns-in-Ok c =
    let key : LockKey = (c.args.who.now, c.args.id.now, c.args.unlocker.now) in
    sym (amount_at c.args.locks.now c.requires.order key c.in-Ok.place c.in-Ok.ensures.found c.index-locks-place.result)

pub returns-in-Err : goal.returns-in-Err
returns-in-Err c =
    let key : LockKey = (c.args.who.now, c.args.id.now, c.args.unlocker.now) in
    sym (amount_gap c.args.locks.now c.requires.order key c.in-Err.field-0 c.in-Err.ensures.gap)
