use Rattle.std.proofs.Common.{◌+◌, ap, ◌∙◌, min}
use Rattle.asset_bundles.specs.Totals.{total_value}
use Rattle.asset_bundles.specs.Books.{most_burned}
use Rattle.weight_trader.specs.Purchases.{paid_goods}
use Rattle.chain_state.specs.PartOf.{part_of}
use Rattle.chain_state.specs.Aside.{aside, asset_in, parked_total}
use Rattle.chain_state.proofs.AsideSums.{aside_sum}
use Rattle.chain_state.proofs.state.ChainState.aside.Goals as goal

pub returns : goal.returns
unfolding aside
returns c =
    let p = part_of c.args.self.now in
    let id = c.args.id.now in
    let kind = c.args.kind in
    let parked = total_value c.parked_total-parked.result in
    let paid = total_value c.plus-with_paid.result in
    let slot = total_value c.plus-with_slot.result in
    aside_sum (parked_total id kind p.parked) (asset_in id kind (paid_goods p.lines)) (asset_in id kind p.fee_slot) (asset_in id kind p.fees) most_burned parked paid slot (total_value c.sum.result) (total_value c.kept_of.result)
    (c.parked_total-parked.ensures ∙ ap (λ xs. min (parked_total id kind xs) most_burned) c.as_slice.ensures.value)
    (c.plus-with_paid.ensures ∙ ap (λ n. min (parked + n) most_burned) c.paid.ensures)
    (c.plus-with_slot.ensures ∙ ap (λ n. min (paid + n) most_burned) c.total.ensures)
    c.kept_of.ensures c.sum.ensures
