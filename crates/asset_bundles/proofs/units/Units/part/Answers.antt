use Rattle.std.proofs.Common.{◌≡◌, List, take, drop, ap, sym, subst, ◌∙◌}
use Rattle.amounts.specs.Amounts.{rows, from_rows}
use Rattle.asset_lists.specs.declared.units.Asset.{Asset}
use Rattle.asset_bundles.specs.Bundles.{bundle_of, IsHolding}
use Rattle.asset_bundles.proofs.Lemmas.BundleLaws.{bundle_of-part}
use Rattle.asset_bundles.proofs.PieceFacts.{part_is, part_holding}
use Rattle.asset_bundles.proofs.units.Units.part.Goals as goal

pub invariant_of-result : goal.invariant_of-result
invariant_of-result c =
    let xs : List Asset = c.as_slice-items.result.now in
    part_holding c.args.from c.args.most xs _ (subst IsHolding (sym c.as_slice-items.ensures.value) c.self.invariant)
    (c.in_ok-items.ensures ∙ part_is xs c.args.from c.args.most _ _ c.min.ensures c.min-2.ensures)

pub returns : goal.returns
returns c =
    let xs : List Asset = c.as_slice-items.result.now in
    let same : bundle_of xs ≡ c.args.self.now = ap bundle_of c.as_slice-items.ensures.value ∙ c.self.view_is in
    ap bundle_of (c.in_ok-items.ensures ∙ part_is xs c.args.from c.args.most _ _ c.min.ensures c.min-2.ensures)
    ∙ bundle_of-part c.args.from c.args.most xs (subst IsHolding (sym c.as_slice-items.ensures.value) c.self.invariant)
    ∙ ap (λ b. from_rows (take c.args.most (drop c.args.from (rows b)))) same
