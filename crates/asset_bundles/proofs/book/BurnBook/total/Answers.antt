use Rattle.std.proofs.Common.{ap, sym, ◌∙◌}
use Rattle.amounts.specs.Amounts.{amount}
use Rattle.asset_bundles.specs.BookRows.{total_at}
use Rattle.asset_bundles.proofs.Burning.{amount-book}
use Rattle.asset_bundles.proofs.book.BurnBook.total.Goals as goal

pub returns : goal.returns
returns c =
    c.total_in.ensures ∙ ap (total_at (c.args.id.now, c.args.kind) c.args.cause) c.as_slice.ensures.value
    ∙ sym (amount-book (c.args.id.now, c.args.kind) c.args.cause c.self.inside.rows.items) ∙ ap (λ b. amount b.burns ((c.args.id.now, c.args.kind), c.args.cause)) c.self.view_is
