use Rattle.std.proofs.Common.{◌≡◌, ◌++◌, List, refl, sym, ap, ◌∙◌, subst}
use Rattle.std.specs.Prelude.{None}
use Rattle.std.specs.List.Sorted.{IsStrictlySortedBy}
use Rattle.std.specs.Map.{keys_of}
use Rattle.amounts.specs.Amounts.{amount}
use Rattle.asset_lists.specs.declared.units.Asset.{Asset}
use Rattle.asset_lists.specs.Units.{unit_cmp}
use Rattle.asset_bundles.specs.Bundles.{rows_of}
use Rattle.ledgers.specs.Ledgers.{barred}
use Rattle.chain_state.specs.Fees.{Fee, kept_goods, some_row}
use Rattle.chain_state.proofs.Lemmas.Fees.{some_rows}
use Rattle.chain_state.proofs.Lemmas.{row_kept, rows_are}
use Rattle.exec_base.specs.Host.{fees_within, fees_above}
use Rattle.chain_state.specs.PartOf.{part_of}
use Rattle.chain_state.specs.Settling.{some_coins}
use Rattle.chain_state.proofs.Settled.{coins_more, barred_more, row_next, rows_end, within_rowed, above_rowed}
use Rattle.chain_state.proofs.state.ChainState.row_shares.Goals as goal

pub share-fits-requires-clause-kept : goal.share-fits-requires-clause-kept
share-fits-requires-clause-kept c =
    let same = c.rows-row-items.ensures.rows in
    let fee = c.row-item.result in
    let rising = subst (λ (es : List Fee). IsStrictlySortedBy unit_cmp (keys_of es)) (sym same) c.rows-row-items.ensures.rising in
    c.sum-kept.ensures ∙ row_kept c.rows-row-items.result.now c.loop-row.row-index fee rising c.loop-row-test.true c.row-item.is
    ∙ (λ j. amount (kept_goods (same j)) (c.id-id.ensures j))

pub loop-row-preserved : goal.loop-row-preserved
loop-row-preserved c =
    let p = part_of c.args.self.now in
    let items = c.rows-row-items.result.now in
    let i = c.loop-row.row-index in
    let fee = c.row-item.result in
    let old = c.loop-row.within.items in
    let id = c.id-id.result in
    let n = c.share-fits.result.0 in
    let unit : (id, None) ≡ fee.0 = sym c.id-id.ensures in
    let fits = c.share-fits.ensures.within ∙ ap (amount (fees_within p)) unit in
    let rest = c.share-fits.ensures.above ∙ ap (amount (fees_above p)) unit in
    let grown = ap rows_of c.in_ok-push_coins.ensures ∙ coins_more old id n ∙ (λ j. rows_of old ++ some_row (unit j) (fits j)) in
    record {
      within = row_next (amount (fees_within p)) items i fee (rows_of old) _ _ c.loop-row-test.true c.row-item.is grown c.loop-row.invariant.within;
      free = subst (λ (xs : List Asset). barred p.held p.fee_account xs ≡ None) (sym c.in_ok-push_coins.ensures) (barred_more p.held p.fee_account old (some_coins id n) c.share-fits.ensures.free c.loop-row.invariant.free);
      above = row_next (amount (fees_above p)) items i fee c.loop-row.above.items _ _ c.loop-row-test.true c.row-item.is
          (c.in_ok-push_above.ensures ∙ (λ j. c.loop-row.above.items ++ some_row (unit j) (rest j))) c.loop-row.invariant.above;
    }

pub returns-clause-within : goal.returns-clause-within
returns-clause-within c =
    let f = c.args.self.now in
    let p = part_of f in
    rows_end (amount (fees_within p)) c.rows-row-items.result.now c.loop-row.row-index _ c.loop-row-test.false c.loop-row.invariant.within
    ∙ ap (some_rows (amount (fees_within p))) c.rows-row-items.ensures.rows ∙ sym (rows_are (fees_within p) f.fees c.rows-row-items.ensures.rising (within_rowed p f.fees refl f.fee_rows f.rates))

pub returns-clause-above : goal.returns-clause-above
returns-clause-above c =
    let f = c.args.self.now in
    let p = part_of f in
    rows_end (amount (fees_above p)) c.rows-row-items.result.now c.loop-row.row-index _ c.loop-row-test.false c.loop-row.invariant.above
    ∙ ap (some_rows (amount (fees_above p))) c.rows-row-items.ensures.rows ∙ sym (rows_are (fees_above p) f.fees c.rows-row-items.ensures.rising (above_rowed p f.fees refl f.fee_rows f.rates))
