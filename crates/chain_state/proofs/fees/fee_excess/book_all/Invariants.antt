use Rattle.std.proofs.Common.{◌≡◌, drop}
use Rattle.amounts.specs.Rows.{rows_at}
use Rattle.amounts.specs.Amounts.{from_rows}
use Rattle.asset_lists.specs.Units.{Unit}
use Rattle.asset_lists.specs.Listed.{listed_of}
use Rattle.asset_bundles.specs.declared.book.Cause.{Cause}
use Rattle.asset_bundles.specs.Books.{Booked}
use Rattle.chain_state.proofs.fees.fee_excess.book_all.Given as goal

abbrev pub invariant-loop-one : goal.invariant-loop-one
invariant-loop-one l = record {
  listed : l.book.listed ≡ l.fn.book.listed;
  booked : Booked l.book (from_rows (rows_at (λ (unit : Unit). (listed_of unit, Cause.Saturated)) (drop l.one-index l.above))) ≡ Booked l.fn.book (from_rows (rows_at (λ (unit : Unit). (listed_of unit, Cause.Saturated)) l.above));
}
