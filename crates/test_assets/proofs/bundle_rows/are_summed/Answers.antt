use Rattle.std.proofs.Common.{rules}
use Rattle.asset_bundles.specs.Books.{Booked}
use Rattle.test_assets.proofs.bundle_rows.are_summed.Goals as goal

pub add-requires-2 : goal.add-requires-2
unfolding Booked
add-requires-2 c = rw (c.add.ensures, c.in_ok-book.ensures, c.coin.ensures, c.coin-3.ensures) (search rules)
