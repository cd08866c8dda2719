use Rattle.std.proofs.Common.{◌≡◌, take}
use Rattle.asset_bundles.specs.declared.book.Cause.{Cause}
use Rattle.asset_lists.specs.Listed.{Listed}
use Rattle.asset_bundles.specs.BookRows.{book_keys_in, total_at}
use Rattle.asset_bundles.proofs.booking.new_rows.Given as goal

abbrev pub invariant-loop-asset : goal.invariant-loop-asset
invariant-loop-asset l = record {
  keys : book_keys_in l.rows.items ≡ take l.asset-index l.assets;
  none : (k : Listed) (c : Cause) → total_at k c l.rows.items ≡ 0;
}
