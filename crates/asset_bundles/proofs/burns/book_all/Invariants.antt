use Rattle.std.proofs.Common.{◌≡◌, take}
use Rattle.amounts.specs.Rows.{rows_at}
use Rattle.amounts.specs.Amounts.{from_rows}
use Rattle.asset_lists.specs.Units.{Unit}
use Rattle.asset_bundles.specs.Bundles.{rows_of}
use Rattle.asset_bundles.specs.Books.{Booked}
use Rattle.asset_lists.specs.Listed.{listed_of}
use Rattle.asset_bundles.proofs.burns.book_all.Given as goal

abbrev pub invariant-loop-item : goal.invariant-loop-item
invariant-loop-item l = l.book ≡ Booked l.fn.book (from_rows (rows_at (λ (unit : Unit). (listed_of unit, l.cause)) (rows_of (take l.item-index l.items))))
