use Rattle.std.proofs.Common.{◌≡◌, ℕ, ◌<◌, sym, ap, ◌∙◌, subst, arith}
use Rattle.std.specs.Prelude.{max}
use Rattle.asset_locks.specs.declared.lock.Lock.{Lock}
use Rattle.asset_locks.specs.LockMaps.{LockKey}
use Rattle.asset_locks.specs.LockRows.{key_of, locks_in, AreSortedLocks}
use Rattle.asset_locks.proofs.Standing.{at_items, gap_items, written_in_order, raised_is, insert_in_order, new_is}
use Rattle.asset_locks.proofs.locks.raise_lock.Goals as goal

most_some : (n m a : ℕ) → n ≡ max m a → 0 < a → 0 < n
most_some n m a is some = omega (arith, is, some)

pub returns-in-Ok-clause-order : goal.returns-in-Ok-clause-order
returns-in-Ok-clause-order c =
    let key : LockKey = (c.args.who.now, c.args.id.now, c.args.unlocker.now) in
    let items = c.args.locks.now.items in
    written_in_order items c.requires.order key c.in-Ok.place (at_items c.as_slice.result.now items key c.as_slice.ensures.value c.in-Ok.place c.in-Ok.ensures.found) c.index_mut.result.now c.index_mut.ensures.value c.max.result (most_some _ c.index.result.now.amount c.args.amount c.max.ensures c.requires.some)

pub returns-in-Ok-clause-raised : goal.returns-in-Ok-clause-raised
returns-in-Ok-clause-raised c =
    let key : LockKey = (c.args.who.now, c.args.id.now, c.args.unlocker.now) in
    let items = c.args.locks.now.items in
    raised_is items c.requires.order key c.in-Ok.place (at_items c.as_slice.result.now items key c.as_slice.ensures.value c.in-Ok.place c.in-Ok.ensures.found) c.index_mut.result.now c.index_mut.ensures.value c.index.result.now c.index.ensures c.max.result c.args.amount c.max.ensures

pub returns-in_ok-insert-in-Err-clause-order : goal.returns-in_ok-insert-in-Err-clause-order
returns-in_ok-insert-in-Err-clause-order c =
    let key : LockKey = (c.args.who.now, c.args.id.now, c.args.unlocker.now) in
    let items = c.args.locks.now.items in
    let new : Lock = record { who = c.args.who.now; id = c.copy.result; unlocker = c.copy-in-Err.result; amount = c.args.amount } in
    let same : key_of new ≡ key = λ i. (c.args.who.now, c.copy.ensures.same i, c.copy-in-Err.ensures.same i) in
    subst AreSortedLocks (sym c.in_ok-insert-in-Err.ensures.items) (insert_in_order items c.requires.order key c.in-Err.place (gap_items c.as_slice.result.now items key c.as_slice.ensures.value c.in-Err.place c.in-Err.ensures.gap) new same c.requires.some)

pub returns-in_ok-insert-in-Err-clause-raised : goal.returns-in_ok-insert-in-Err-clause-raised
returns-in_ok-insert-in-Err-clause-raised c =
    let key : LockKey = (c.args.who.now, c.args.id.now, c.args.unlocker.now) in
    let items = c.args.locks.now.items in
    let new : Lock = record { who = c.args.who.now; id = c.copy.result; unlocker = c.copy-in-Err.result; amount = c.args.amount } in
    let same : key_of new ≡ key = λ i. (c.args.who.now, c.copy.ensures.same i, c.copy-in-Err.ensures.same i) in
    ap locks_in c.in_ok-insert-in-Err.ensures.items ∙ new_is items c.requires.order key c.in-Err.place (gap_items c.as_slice.result.now items key c.as_slice.ensures.value c.in-Err.place c.in-Err.ensures.gap) new same
