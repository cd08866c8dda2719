use Rattle.std.proofs.Common.{[], sym, ◌∙◌, subst}
use Rattle.std.specs.Ordering.{eq_by_cmp}
use Rattle.std.specs.List.{IsDistinct}
use Rattle.asset_lists.specs.Listed.{listed_cmp}
use Rattle.ledgers.specs.LedgerRows.{IsSound, held_in}
use Rattle.ledgers.proofs.Opening.{opened, nothing_held}
use Rattle.ledgers.proofs.ledger.Ledger.open.Goals as goal

pub invariant_of-result : goal.invariant_of-result
invariant_of-result c =
    let assets = c.in_ok-assets.assets in
    let sums = c.in_ok-sums.sums.items in
    let base = opened assets sums (subst (IsDistinct (eq_by_cmp listed_cmp)) (sym c.in_ok-assets.ensures.opened) c.requires.distinct) (c.in_ok-sums.ensures.count ∙ c.len.ensures) c.in_ok-sums.ensures.zero in
    subst (λ o. IsSound assets c.new.result.entries o sums) (sym c.new-2.ensures.empty) (subst (λ a. IsSound assets a [] sums) (sym c.new.ensures.empty) base)

pub returns : goal.returns
returns c = record {
  opened = λ i. record {
    listed = c.in_ok-assets.ensures.opened i;
    held = ((λ j. held_in c.in_ok-assets.assets (c.new.ensures.empty j) (c.new-2.ensures.empty j)) ∙ nothing_held c.in_ok-assets.assets) i;
  };
}
