use Rattle.std.proofs.Common.{◌≡◌, ℕ, true, refl, sym, ◌∙◌, subst}
use Rattle.asset_lists.specs.Units.{Unit}
use Rattle.asset_lists.specs.Listed.{listed_of, lists}
use Rattle.asset_bundles.specs.declared.book.Cause.{Cause}
use Rattle.chain_state.proofs.Widths.{booked_next, booked_all, rows_stay}
use Rattle.chain_state.proofs.fees.fee_excess.book_all.Goals as goal
use Rattle.plain_lists.proofs.Lemmas.Facts.{all_at}

pub loop-one-init : goal.loop-one-init
loop-one-init c = record { listed = refl; booked = refl }

pub book-requires : goal.book-requires
book-requires c =
    record {
      listed = subst (λ (listed : _). lists listed (listed_of c.one-item.result.0) ≡ true) (sym c.loop-one.invariant.listed)
          (all_at (λ (r : Unit × ℕ). lists c.args.book.now.listed (listed_of r.0)) c.args.above.now c.loop-one.one-index c.one-item.result c.requires.listed c.loop-one-test.true c.one-item.is);
    }

pub loop-one-preserved : goal.loop-one-preserved
loop-one-preserved c = record {
  listed = rows_stay _ _ _ c.book.ensures ∙ c.loop-one.invariant.listed;
  booked = booked_next (λ (unit : Unit). (listed_of unit, Cause.Saturated)) c.args.above.now c.loop-one.one-index c.one-item.result c.args.book.now _ _ c.loop-one-test.true c.one-item.is c.book.ensures c.loop-one.invariant.booked;
}

pub returns : goal.returns
returns c = booked_all (λ (unit : Unit). (listed_of unit, Cause.Saturated)) c.args.above.now c.loop-one.one-index c.args.book.now _ c.loop-one-test.false c.loop-one.invariant.booked
