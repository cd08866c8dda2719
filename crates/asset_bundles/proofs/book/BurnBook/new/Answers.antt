use Rattle.asset_bundles.specs.BookRows.{book_of_rows}
use Rattle.asset_bundles.proofs.Burning.{new_empty}
use Rattle.asset_bundles.proofs.book.BurnBook.new.Goals as goal

pub returns : goal.returns
unfolding book_of_rows
returns c = λ i. record { listed = c.in_ok-rows.ensures.keys i; burns = new_empty _ c.in_ok-rows.ensures.none i }
