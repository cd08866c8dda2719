use Rattle.std.proofs.Common.{ap, sym, ◌∙◌}
use Rattle.asset_bundles.specs.Bundles.{bundle_of, held_assets}
use Rattle.asset_bundles.proofs.Lemmas.BundleLaws.{held_assets-holding}
use Rattle.asset_bundles.specs.Filters.{Taken}
use Rattle.asset_bundles.specs.Portions.{chosen}
use Rattle.asset_bundles.proofs.Parts.{chosen_holding, chosen_taken}
use Rattle.asset_bundles.proofs.bundle.AssetBundle.min.Goals as goal

pub returns-clause-listed : goal.returns-clause-listed
returns-clause-listed c =
    let xs = c.self.inside.items.items in
    c.in_ok-taken.ensures.taken ∙ ap (chosen c.args.filter.now) c.as_slice.ensures.value ∙ sym (held_assets-holding _ (chosen_holding c.args.filter.now xs c.self.invariant))
    ∙ ap held_assets (chosen_taken c.args.filter.now xs c.in_ok-taken.ensures.listed c.self.invariant ∙ ap (Taken c.args.filter.now) c.self.view_is)

pub returns-clause-bundle : goal.returns-clause-bundle
returns-clause-bundle c =
    let xs = c.self.inside.items.items in
    ap bundle_of (c.in_ok-taken.ensures.taken ∙ ap (chosen c.args.filter.now) c.as_slice.ensures.value)
    ∙ chosen_taken c.args.filter.now xs c.in_ok-taken.ensures.listed c.self.invariant ∙ ap (Taken c.args.filter.now) c.self.view_is
