use Rattle.std.proofs.Common.{◌+◌, ◌-◌, min, None, ap, ◌∙◌}
use Rattle.asset_bundles.specs.Totals.{total_value}
use Rattle.asset_bundles.specs.Books.{most_burned}
use Rattle.chain_state.specs.Fees.{raised_fee}
use Rattle.chain_state.proofs.fees.row.FeeRow.raise.Goals as goal

pub returns : goal.returns
returns c =
    let old = total_value c.self.inside.sum in
    let sum = c.with_more-self-inside.ensures ∙ ap (λ n. old + min n (most_burned - old)) c.amount_by.ensures in
    (λ i. ((c.self.inside.id, None), sum i)) ∙ ap (raised_fee c.args.goods.now) c.self.view_is
