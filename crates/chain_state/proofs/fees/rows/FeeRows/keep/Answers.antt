use Rattle.std.proofs.Common.{true≢false, ◌+◌, ◌-◌, min, List, length, map, sym, ap, ◌∙◌, subst}
use Rattle.std.specs.List.Sorted.{IsStrictlySortedBy}
use Rattle.std.specs.Map.{keys_of}
use Rattle.amounts.specs.Amounts.{amount}
use Rattle.asset_lists.specs.Units.{Unit, unit_cmp}
use Rattle.asset_bundles.specs.Books.{most_burned}
use Rattle.chain_state.specs.Fees.{Fee, kept_goods, has_row, HaveRowsFor, saturated_fees, raised_fee}
use Rattle.chain_state.proofs.Lemmas.{rising_changed, rows_changed, kept_raised}
use Rattle.chain_state.proofs.Lemmas.Mapped.{whole_mapped}
use Rattle.chain_state.proofs.fees.rows.FeeRows.keep.Goals as goal

pub invariant_of-self : goal.invariant_of-self
invariant_of-self c =
    let goods = c.args.goods in
    let size = sym c.as_mut_slice.ensures.len ∙ ap length c.as_mut_slice.ensures.value in
    let whole = whole_mapped (raised_fee goods) c.self.inside.rows.items c.raise_all.new.rows _ (c.raise_all.ensures ∙ ap (map (raised_fee goods)) c.as_mut_slice.ensures.value) size in
    (subst (λ (fees : List Fee). IsStrictlySortedBy unit_cmp (keys_of fees)) (sym whole) (rising_changed (λ (unit : Unit) n. n + min (amount goods unit) (most_burned - n)) c.self.inside.rows.items c.self.invariant.0), λ clear. absurd (true≢false (sym clear)))

pub returns-clause-kept : goal.returns-clause-kept
returns-clause-kept c =
    let goods = c.args.goods in
    let size = sym c.as_mut_slice.ensures.len ∙ ap length c.as_mut_slice.ensures.value in
    let whole = whole_mapped (raised_fee goods) c.self.inside.rows.items c.raise_all.new.rows _ (c.raise_all.ensures ∙ ap (map (raised_fee goods)) c.as_mut_slice.ensures.value) size in
    ap kept_goods whole
    ∙ kept_raised c.self.inside.rows.items goods c.self.invariant.0 (subst (λ (fees : List Fee). HaveRowsFor fees goods) (sym c.self.view_is) c.requires.rows)
    ∙ ap (λ (fees : List Fee). saturated_fees (kept_goods fees) goods) c.self.view_is

pub returns-clause-rows : goal.returns-clause-rows
returns-clause-rows c = λ u.
    let goods = c.args.goods in
    let size = sym c.as_mut_slice.ensures.len ∙ ap length c.as_mut_slice.ensures.value in
    let whole = whole_mapped (raised_fee goods) c.self.inside.rows.items c.raise_all.new.rows _ (c.raise_all.ensures ∙ ap (map (raised_fee goods)) c.as_mut_slice.ensures.value) size in
    ap (λ (fees : List Fee). has_row fees u) whole
    ∙ rows_changed (λ (unit : Unit) n. n + min (amount goods unit) (most_burned - n)) c.self.inside.rows.items u
    ∙ ap (λ (fees : List Fee). has_row fees u) c.self.view_is
