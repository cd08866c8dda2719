use Rattle.std.proofs.Common.{◌≡◌, ℕ, ◌<◌, sym, ap, ◌∙◌, subst, arith}
use Rattle.amounts.specs.Amounts.{with_amount}
use Rattle.asset_locks.specs.LockMaps.{LockKey}
use Rattle.asset_locks.specs.LockRows.{locks_in, AreSortedLocks}
use Rattle.asset_locks.proofs.Standing.{at_items, gap_items, nothing_lowered, remove_in_order, remove_is, written_in_order, written_is}
use Rattle.asset_locks.proofs.locks.lower_lock.Goals as goal

pub returns-in_default-clause-lowered : goal.returns-in_default-clause-lowered
returns-in_default-clause-lowered c =
    let key : LockKey = (c.args.who.now, c.args.id.now, c.args.unlocker.now) in
    let items = c.args.locks.now.items in
    nothing_lowered items c.requires.order key c.in_default.field-0 (gap_items c.as_slice.result.now items key c.as_slice.ensures.value c.in_default.field-0 c.in_default.ensures.gap) c.args.amount c.requires.most

pub returns-then-amount-eq0-clause-order : goal.returns-then-amount-eq0-clause-order
returns-then-amount-eq0-clause-order c =
    let key : LockKey = (c.args.who.now, c.args.id.now, c.args.unlocker.now) in
    let items = c.args.locks.now.items in
    subst AreSortedLocks (sym c.remove.ensures.items) (remove_in_order items c.requires.order key c.in-Ok.place (at_items c.as_slice.result.now items key c.as_slice.ensures.value c.in-Ok.place c.in-Ok.ensures.found))

pub returns-then-amount-eq0-clause-lowered : goal.returns-then-amount-eq0-clause-lowered
returns-then-amount-eq0-clause-lowered c =
    let key : LockKey = (c.args.who.now, c.args.id.now, c.args.unlocker.now) in
    let items = c.args.locks.now.items in
    ap locks_in c.remove.ensures.items
    ∙ remove_is items c.requires.order key c.in-Ok.place (at_items c.as_slice.result.now items key c.as_slice.ensures.value c.in-Ok.place c.in-Ok.ensures.found)
    ∙ ap (with_amount (locks_in items) key) (sym c.if-amount-eq0.true)

above_none : (n : ℕ) → (n ≡ 0 → ⊥) → 0 < n
above_none n some = omega (arith, some)

pub returns-clause-order : goal.returns-clause-order
returns-clause-order c =
    let key : LockKey = (c.args.who.now, c.args.id.now, c.args.unlocker.now) in
    let items = c.args.locks.now.items in
    written_in_order items c.requires.order key c.in-Ok.place (at_items c.as_slice.result.now items key c.as_slice.ensures.value c.in-Ok.place c.in-Ok.ensures.found) c.index_mut.result.now c.index_mut.ensures.value c.args.amount (above_none c.args.amount c.if-amount-eq0.false)

pub returns-clause-lowered : goal.returns-clause-lowered
returns-clause-lowered c =
    let key : LockKey = (c.args.who.now, c.args.id.now, c.args.unlocker.now) in
    let items = c.args.locks.now.items in
    written_is items c.requires.order key c.in-Ok.place (at_items c.as_slice.result.now items key c.as_slice.ensures.value c.in-Ok.place c.in-Ok.ensures.found) c.index_mut.result.now c.index_mut.ensures.value c.args.amount
