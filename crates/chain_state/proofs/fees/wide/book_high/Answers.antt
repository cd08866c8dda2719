use Rattle.std.proofs.Common.{◌≡◌, ◌*◌, ◌^◌, true, sym, ap, ◌∙◌, subst, arith}
use Rattle.amounts.specs.Amounts.{single}
use Rattle.asset_lists.specs.declared.units.Kind.{Kind}
use Rattle.asset_lists.specs.Listed.{Listed, lists}
use Rattle.asset_bundles.specs.declared.book.Cause.{Cause}
use Rattle.asset_bundles.specs.Books.{Booked}
use Rattle.chain_state.proofs.Widths.{booked_zero, booked_whole, rows_stay, all_counted}
use Rattle.chain_state.proofs.fees.wide.book_high.Goals as goal

pub loop-init : goal.loop-init
loop-init c = record { within = omega arith; booked = booked_zero c.args.book.now ((c.args.id.now, Kind.Fungible), Cause.Saturated) }

pub book_most-requires : goal.book_most-requires
book_most-requires c =
    let k : Listed = (c.args.id.now, Kind.Fungible) in
    record { listed = subst (λ (listed : _). lists listed k ≡ true) (sym (rows_stay c.args.book.now _ _ c.loop.invariant.booked)) c.requires.listed }

pub add-requires : goal.add-requires
add-requires c =
    let k : Listed = (c.args.id.now, Kind.Fungible) in
    subst (λ (listed : _). lists listed k ≡ true) (sym (rows_stay _ _ _ c.book_most.ensures ∙ rows_stay c.args.book.now _ _ c.loop.invariant.booked)) c.requires.listed

pub loop-preserved : goal.loop-preserved
loop-preserved c =
    let test = c.loop-test.true in
    record {
      within = omega (arith, test);
      booked = booked_whole c.args.book.now _ _ _ ((c.args.id.now, Kind.Fungible), Cause.Saturated) c.loop.counter c.loop.invariant.booked c.book_most.ensures c.add.ensures;
    }

pub returns : goal.returns
returns c =
    let test = c.loop-test.false in
    let within = c.loop.invariant.within in
    c.loop.invariant.booked ∙ ap (λ n. Booked c.args.book.now (single ((c.args.id.now, Kind.Fungible), Cause.Saturated) (n * 2 ^ 128))) (all_counted c.loop.counter c.args.high within (omega (arith, test)))
