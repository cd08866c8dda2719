use Rattle.std.proofs.Common.{rules, of_calls}
use Rattle.std.proofs.lemmas.Fn.{always_returns_same}
use Rattle.asset_locks.specs.LockMaps.{LockKey, lock_cmp}
use Rattle.asset_locks.specs.LockRows.{key_of}
use Rattle.asset_locks.proofs.Searching.{searched}
use Rattle.asset_locks.proofs.places.place_of.Goals as goal

pub returns-clause-found : goal.returns-clause-found
returns-clause-found c =
    let key : LockKey = (c.args.who.now, c.args.id.now, c.args.unlocker.now) in
    let found = c.binary_search_by.ensures in
    (searched c.args.locks.now c.requires.order key _ found.bound (found.position (λ lock. lock_cmp (key_of lock) key) (always_returns_same _ _ _ (λ a r f k. search (rules, of_calls))))).0

pub returns-clause-gap : goal.returns-clause-gap
returns-clause-gap c =
    let key : LockKey = (c.args.who.now, c.args.id.now, c.args.unlocker.now) in
    let found = c.binary_search_by.ensures in
    (searched c.args.locks.now c.requires.order key _ found.bound (found.position (λ lock. lock_cmp (key_of lock) key) (always_returns_same _ _ _ (λ a r f k. search (rules, of_calls))))).1
