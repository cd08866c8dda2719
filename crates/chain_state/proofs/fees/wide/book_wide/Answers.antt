use Rattle.std.proofs.Common.{◌≡◌, ◌*◌, ◌^◌, true, sym, ap, ◌∙◌, subst}
use Rattle.amounts.specs.Amounts.{single}
use Rattle.asset_lists.specs.declared.units.Kind.{Kind}
use Rattle.asset_lists.specs.Listed.{Listed, lists}
use Rattle.asset_bundles.specs.declared.book.Cause.{Cause}
use Rattle.asset_bundles.specs.Books.{Burn, Booked}
use Rattle.chain_state.proofs.Widths.{booked_more, rows_stay}
use Rattle.chain_state.proofs.fees.wide.book_wide.Goals as goal

pub add-requires : goal.add-requires
add-requires c =
    let k : Listed = (c.args.id.now, Kind.Fungible) in
    subst (λ (listed : _). lists listed k ≡ true) (sym (rows_stay c.args.book.now _ _ c.book_high.ensures)) c.requires.listed

pub returns : goal.returns
returns c =
    let k : Burn = ((c.args.id.now, Kind.Fungible), Cause.Saturated) in
    c.add.ensures ∙ ap (λ b. Booked b (single k c.args.amount.low)) c.book_high.ensures ∙ booked_more c.args.book.now k (c.args.amount.high * 2 ^ 128) c.args.amount.low
