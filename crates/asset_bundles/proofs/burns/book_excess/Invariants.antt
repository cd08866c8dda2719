use Rattle.std.proofs.Common.{◌≡◌, take}
use Rattle.amounts.specs.Rows.{rows_at}
use Rattle.amounts.specs.Amounts.{from_rows}
use Rattle.asset_bundles.specs.Bundles.{rows_of}
use Rattle.asset_bundles.specs.Books.{Booked}
use Rattle.asset_bundles.proofs.BookedAll.{excess_of}
use Rattle.asset_bundles.proofs.burns.book_excess.Given as goal

abbrev pub invariant-loop-item : goal.invariant-loop-item
invariant-loop-item l = l.book ≡ Booked l.fn.book (from_rows (rows_at excess_of (rows_of (take l.item-index l.items))))
