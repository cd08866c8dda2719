use Rattle.std.proofs.Common.{◌≡◌, ◌∙◌, ◌+◌, ap, min}
use Rattle.asset_bundles.specs.Books.{most_burned}
use Rattle.asset_bundles.specs.Totals.{total_value}
use Rattle.chain_ids.specs.declared.chain.ChainId.{ChainId}
use Rattle.law_coherence.specs.Networks.{asset_of_row}
use Rattle.chain_state.specs.PartOf.{part_of}
use Rattle.supply_audit.specs.Places.{chain_table, placed_at, deposits_to, withdrawals_to}
use Rattle.supply_audit.proofs.Saturating.{three}
use Rattle.supply_audit.proofs.audit.owed.Goals as goal

pub returns : goal.returns
returns c =
    let here = part_of c.args.here.now in
    let there = part_of c.args.there.now in
    let a = asset_of_row (chain_table here) c.args.row.now in
    let coming : total_value c.sent_of_row-coming.result ≡ min (deposits_to here.site.chain a there) most_burned =
    c.sent_of_row-coming.ensures ∙ ap (λ (chain : ChainId). min (deposits_to chain a there) most_burned) c.name_of.ensures in
    let leaving : total_value c.sent_of_row-leaving.result ≡ min (withdrawals_to there.site.chain a here) most_burned =
    c.sent_of_row-leaving.ensures ∙ ap (λ (chain : ChainId). min (withdrawals_to chain a here) most_burned) c.name_of-2.ensures in
    let front : total_value c.sum.result ≡ min (min (placed_at a here) most_burned + min (deposits_to here.site.chain a there) most_burned) most_burned =
    c.sum.ensures ∙ (λ i. min (c.of_row-placed.ensures i + coming i) most_burned) in
    c.sum-2.ensures ∙ (λ i. min (front i + leaving i) most_burned) ∙ three (placed_at a here) (deposits_to here.site.chain a there) (withdrawals_to there.site.chain a here) most_burned
