use Rattle.std.proofs.Common.{List, length, zero, map, sym, ap, ◌∙◌, subst}
use Rattle.std.specs.List.Sorted.{IsStrictlySortedBy}
use Rattle.std.specs.Map.{keys_of}
use Rattle.asset_lists.specs.Units.{Unit, unit_cmp}
use Rattle.chain_state.specs.Fees.{Fee, kept_goods, has_row, cleared}
use Rattle.chain_state.proofs.Lemmas.{rising_changed, rows_changed, kept_cleared}
use Rattle.chain_state.proofs.Lemmas.Mapped.{whole_mapped}
use Rattle.chain_state.proofs.fees.rows.FeeRows.clear.Goals as goal

pub invariant_of-self : goal.invariant_of-self
invariant_of-self c =
    let size = sym c.as_mut_slice.ensures.len ∙ ap length c.as_mut_slice.ensures.value in
    let whole = whole_mapped cleared c.self.inside.rows.items c.clear_all.new.rows _ (c.clear_all.ensures ∙ ap (map cleared) c.as_mut_slice.ensures.value) size in
    (subst (λ (fees : List Fee). IsStrictlySortedBy unit_cmp (keys_of fees)) (sym whole) (rising_changed (λ (unit : Unit) n. zero) c.self.inside.rows.items c.self.invariant.0), λ clear. ap kept_goods whole ∙ kept_cleared c.self.inside.rows.items c.self.invariant.0)

pub returns-clause-none : goal.returns-clause-none
returns-clause-none c =
    let size = sym c.as_mut_slice.ensures.len ∙ ap length c.as_mut_slice.ensures.value in
    let whole = whole_mapped cleared c.self.inside.rows.items c.clear_all.new.rows _ (c.clear_all.ensures ∙ ap (map cleared) c.as_mut_slice.ensures.value) size in
    ap kept_goods whole ∙ kept_cleared c.self.inside.rows.items c.self.invariant.0

pub returns-clause-rows : goal.returns-clause-rows
returns-clause-rows c = λ u.
    let size = sym c.as_mut_slice.ensures.len ∙ ap length c.as_mut_slice.ensures.value in
    let whole = whole_mapped cleared c.self.inside.rows.items c.clear_all.new.rows _ (c.clear_all.ensures ∙ ap (map cleared) c.as_mut_slice.ensures.value) size in
    ap (λ (fees : List Fee). has_row fees u) whole ∙ rows_changed (λ (unit : Unit) n. zero) c.self.inside.rows.items u ∙ ap (λ (fees : List Fee). has_row fees u) c.self.view_is
