use Rattle.std.proofs.Common.{◌≡◌, ◌+◌, ◌-◌, length, take, drop, true, false, refl, sym, ap, ◌∙◌, subst, rules, of_calls}
use Rattle.std.specs.Ordering.{is_lt, is_eq, is_ne}
use Rattle.std.specs.declared.cmp.Ordering.{Ordering}
use Rattle.std.specs.declared.cmp.Ordering.TheVariants.{Less, Equal, Greater}
use Rattle.std.proofs.lemmas.List.{take_rest}
use Rattle.std.proofs.lemmas.Fn.{always_returns_same}
use Rattle.asset_locks.specs.LockMaps.{LockedAsset}
use Rattle.asset_locks.proofs.Searching.{Walk, order_at, parted, walk_starts, walk_stops, walk_on, walk_done}
use Rattle.asset_locks.proofs.places.greatest_of.Goals as goal

pub loop-lock-init : goal.loop-lock-init
loop-lock-init c =
    let asset : LockedAsset = (c.args.who.now, c.args.id.now) in
    let xs = c.args.locks.now in
    let found = c.partition_point-first.ensures in
    let point = found.partitioned (λ lock. is_lt (order_at asset lock)) (always_returns_same _ _ _ (λ a r f k. search (rules, of_calls))) (parted asset xs c.requires.order) in
    subst (λ ys. Walk asset xs 0 ys 0) (sym (take_rest xs c.partition_point-first.result)) (walk_starts asset xs c.requires.order c.partition_point-first.result found.bound point)

is_told : (r : Ordering) → is_ne r ≡ true → is_eq r ≡ false
is_told Less e = refl
is_told Equal e = absurd cc
is_told Greater e = refl

is_not_told : (r : Ordering) → is_ne r ≡ false → is_eq r ≡ true
is_not_told Less e = absurd cc
is_not_told Equal e = refl
is_not_told Greater e = absurd cc

pub returns-then-is_ne : goal.returns-then-is_ne
returns-then-is_ne c =
    let asset : LockedAsset = (c.args.who.now, c.args.id.now) in
    let differs : is_eq (order_at asset c.lock-item.result) ≡ false = is_told (order_at asset c.lock-item.result) (ap is_ne (sym c.compare_asset.ensures) ∙ sym c.is_ne.ensures ∙ c.if-is_ne.true) in
    record { greatest = walk_stops asset c.args.locks.now c.loop-lock.most _ c.loop-lock.lock-index c.loop-lock.invariant c.lock-item.result c.lock-item.is c.loop-lock-test.true differs }

pub loop-lock-preserved : goal.loop-lock-preserved
loop-lock-preserved c =
    let asset : LockedAsset = (c.args.who.now, c.args.id.now) in
    let same : is_eq (order_at asset c.lock-item.result) ≡ true = is_not_told (order_at asset c.lock-item.result) (ap is_ne (sym c.compare_asset.ensures) ∙ sym c.is_ne.ensures ∙ c.if-is_ne.false) in
    let next = walk_on asset c.args.locks.now c.loop-lock.most _ c.loop-lock.lock-index c.loop-lock.invariant c.lock-item.result c.lock-item.is c.loop-lock-test.true same in
    let xs = c.args.locks.now in
    let first = c.partition_point-first.result in
    subst (λ most. Walk asset xs most (take (length xs - first) (drop first xs)) (c.loop-lock.lock-index + 1)) (sym c.max-most.ensures) next

pub returns : goal.returns
returns c =
    let asset : LockedAsset = (c.args.who.now, c.args.id.now) in
    record { greatest = walk_done asset c.args.locks.now c.loop-lock.most _ c.loop-lock.lock-index c.loop-lock.invariant c.loop-lock-test.false }
