use Rattle.std.proofs.Common.{refl}
use Rattle.asset_bundles.proofs.BookedAll.{booked_none, booked_item, burn_of, listed_item}
use Rattle.asset_bundles.proofs.burns.book_all.Goals as goal

pub loop-item-init : goal.loop-item-init
loop-item-init c = booked_none _

pub add-requires : goal.add-requires
add-requires c =
    listed_item _ c.loop-item.item-index c.item-item.result c.args.book.now c.loop-item.book _ _ c.requires c.loop-item-test.true c.item-item.is c.kind.ensures c.loop-item.invariant

pub loop-item-preserved : goal.loop-item-preserved
loop-item-preserved c =
    booked_item (burn_of c.args.cause) _ c.loop-item.item-index c.item-item.result c.args.book.now c.loop-item.book _ _ c.args.cause _ c.loop-item-test.true c.item-item.is
    c.add.ensures c.kind.ensures refl c.amount.ensures c.loop-item.invariant
