use Rattle.std.proofs.Common.{◌≡◌, true, ap, sym, subst, ◌∙◌}
use Rattle.amounts.specs.Amounts.{single}
use Rattle.asset_bundles.specs.Books.{Booked}
use Rattle.asset_lists.specs.Listed.{Listed, lists}
use Rattle.asset_bundles.specs.BookRows.{book_of_rows, book_keys_in}
use Rattle.asset_bundles.proofs.Burning.{booked_stands, booked_is}
use Rattle.asset_bundles.proofs.book.BurnBook.add.Goals as goal

pub invariant_of-self : goal.invariant_of-self
unfolding book_of_rows
invariant_of-self c =
    let k : Listed = (c.args.id.now, c.args.kind) in
    let listed : lists (book_keys_in c.self.inside.rows.items) k ≡ true = subst (λ b. lists b.listed k ≡ true) (sym c.self.view_is) c.requires in
    booked_stands k c.args.cause c.args.amount c.self.inside.rows.items _ c.book_into.ensures listed c.self.invariant

pub returns : goal.returns
unfolding book_of_rows
returns c =
    let k : Listed = (c.args.id.now, c.args.kind) in
    let listed : lists (book_keys_in c.self.inside.rows.items) k ≡ true = subst (λ b. lists b.listed k ≡ true) (sym c.self.view_is) c.requires in
    booked_is k c.args.cause c.args.amount c.self.inside.rows.items _ c.book_into.ensures listed c.self.invariant
    ∙ ap (λ b. Booked b (single (k, c.args.cause) c.args.amount)) c.self.view_is
