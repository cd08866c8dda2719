use Rattle.std.proofs.Common.{◌≡◌, true, ap, sym, subst, ◌∙◌}
use Rattle.std.specs.List.{list_all}
use Rattle.amounts.specs.Rows.{rows_at}
use Rattle.amounts.specs.Amounts.{from_rows}
use Rattle.asset_lists.specs.Units.{Unit, unit_of}
use Rattle.asset_bundles.specs.Bundles.{rows_of}
use Rattle.asset_bundles.specs.Books.{Booked, AreListed, burned_for}
use Rattle.asset_lists.specs.Listed.{listed_of, lists}
use Rattle.asset_bundles.proofs.BookedAll.{all_listed, burned_rows}
use Rattle.asset_bundles.proofs.bundle.AssetBundle.burn.Goals as goal

pub book_all-requires : goal.book_all-requires
book_all-requires c =
    subst (λ xs. list_all (λ a. lists c.args.book.now.listed (listed_of (unit_of a))) xs ≡ true) (sym c.as_slice.ensures.value)
    (all_listed c.args.book.now c.self.inside.items.items c.self.invariant (subst (AreListed c.args.book.now.listed) (sym c.self.view_is) c.requires))

pub returns : goal.returns
returns c =
    c.book_all.ensures ∙ ap (λ xs. Booked c.args.book.now (from_rows (rows_at (λ (unit : Unit). (listed_of unit, c.args.cause)) (rows_of xs)))) c.as_slice.ensures.value
    ∙ ap (Booked c.args.book.now) (burned_rows c.args.cause c.self.inside.items.items c.self.invariant ∙ ap (burned_for c.args.cause) c.self.view_is)
