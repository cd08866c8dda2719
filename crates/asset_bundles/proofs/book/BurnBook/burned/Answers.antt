use Rattle.std.proofs.Common.{◌+◌, min, ap, sym, ◌∙◌}
use Rattle.amounts.specs.Amounts.{amount}
use Rattle.asset_lists.specs.Listed.{Listed}
use Rattle.asset_bundles.specs.declared.book.Cause.{Cause}
use Rattle.asset_bundles.specs.Books.{most_burned}
use Rattle.asset_bundles.specs.BookRows.{total_at}
use Rattle.asset_bundles.proofs.Burning.{amount-book}
use Rattle.asset_bundles.proofs.book.BurnBook.burned.Goals as goal

pub returns : goal.returns
returns c =
    let k : Listed = (c.args.id.now, c.args.kind) in
    let same = λ (cause : Cause). ap (total_at k cause) c.as_slice.ensures.value ∙ sym (amount-book k cause c.self.inside.rows.items) ∙ ap (λ b. amount b.burns (k, cause)) c.self.view_is in
    c.sum_in.ensures ∙ (λ i. min (same Cause.BurnAsset i + same Cause.LostTeleport i + same Cause.Merged i + same Cause.Saturated i) most_burned)
