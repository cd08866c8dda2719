use Rattle.std.proofs.Common.{◌≡◌, ◌*◌, ◌≤◌, ◌^◌}
use Rattle.amounts.specs.Amounts.{single}
use Rattle.asset_lists.specs.declared.units.Kind.{Kind}
use Rattle.asset_bundles.specs.declared.book.Cause.{Cause}
use Rattle.asset_bundles.specs.Books.{Booked}
use Rattle.chain_state.proofs.fees.wide.book_high.Given as goal

abbrev pub invariant-loop : goal.invariant-loop
invariant-loop l = record {
  within : l.counter ≤ l.high;
  booked : l.book ≡ Booked l.fn.book (single ((l.id, Kind.Fungible), Cause.Saturated) (l.counter * 2 ^ 128));
}
