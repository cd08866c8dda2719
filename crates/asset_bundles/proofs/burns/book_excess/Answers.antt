use Rattle.std.proofs.Common.{ap}
use Rattle.asset_lists.specs.Units.{unit_of}
use Rattle.asset_lists.specs.Listed.{listed_of}
use Rattle.asset_bundles.proofs.BookedAll.{booked_none, booked_item, excess_of, listed_item}
use Rattle.asset_bundles.proofs.burns.book_excess.Goals as goal

pub loop-item-init : goal.loop-item-init
loop-item-init c = booked_none _

pub add-requires : goal.add-requires
add-requires c =
    listed_item _ c.loop-item.item-index c.item-item.result c.args.book.now c.loop-item.book _ _ c.requires c.loop-item-test.true c.item-item.is c.kind.ensures c.loop-item.invariant

pub loop-item-preserved : goal.loop-item-preserved
loop-item-preserved c =
    booked_item excess_of _ c.loop-item.item-index c.item-item.result c.args.book.now c.loop-item.book _ _ c.excess_cause.result _ c.loop-item-test.true c.item-item.is
    c.add.ensures c.kind.ensures (ap (λ w. (listed_of (unit_of c.item-item.result), w)) c.excess_cause.ensures) c.amount.ensures c.loop-item.invariant
