use Rattle.std.proofs.Common.{List, map, sym, ap, ◌∙◌, subst}
use Rattle.std.specs.List.Sorted.{IsStrictlySortedBy}
use Rattle.std.specs.Map.{keys_of}
use Rattle.std.proofs.lemmas.List.Filters.{dedup_is}
use Rattle.std.proofs.lemmas.List.Sorted.{IsPermutation-map}
use Rattle.asset_lists.specs.Units.{unit_cmp}
use Rattle.chain_state.specs.Fees.{Fee, kept_goods, HaveRows, no_fee}
use Rattle.chain_state.proofs.Lent.{lent, same_lent, deduped, rising_lent}
use Rattle.chain_state.proofs.Openings.{rows_opened, rising_opened, nothing_opened}
use Rattle.chain_state.proofs.fees.rows.FeeRows.open.Goals as goal

pub invariant_of-result : goal.invariant_of-result
invariant_of-result c =
    let left = dedup_is same_lent _ _ c.dedup.ensures.filtered in
    let rows = c.in_ok-rows.ensures ∙ ap (λ ids. map no_fee (map lent ids)) (c.as_slice.ensures.value ∙ left) in
    let rising = rising_lent _ c.sort_unstable.ensures.sorted in
    (subst (λ (fees : List Fee). IsStrictlySortedBy unit_cmp (keys_of fees)) (sym rows) (rising_opened _ rising), λ clear. ap kept_goods rows ∙ nothing_opened _ rising)

pub returns-clause-rows : goal.returns-clause-rows
returns-clause-rows c =
    let rows = c.in_ok-rows.ensures ∙ ap (λ ids. map no_fee (map lent ids)) c.as_slice.ensures.value ∙ ap (map no_fee) (deduped _ _ c.dedup.ensures.filtered) in
    subst (HaveRows c.args.listed.now) (sym rows) (rows_opened c.args.listed.now _ _ c.in_ok-ids.ensures (IsPermutation-map lent _ _ c.sort_unstable.ensures.permutation))

pub returns-clause-none : goal.returns-clause-none
returns-clause-none c =
    let left = dedup_is same_lent _ _ c.dedup.ensures.filtered in
    let rows = c.in_ok-rows.ensures ∙ ap (λ ids. map no_fee (map lent ids)) (c.as_slice.ensures.value ∙ left) in
    ap kept_goods rows ∙ nothing_opened _ (rising_lent _ c.sort_unstable.ensures.sorted)
