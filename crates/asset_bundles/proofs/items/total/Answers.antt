use Rattle.std.proofs.Common.{ap, sym, ◌∙◌}
use Rattle.amounts.specs.Amounts.{total}
use Rattle.asset_lists.specs.declared.units.Kind.{Kind}
use Rattle.asset_bundles.specs.Bundles.{bundle_of, is_asset}
use Rattle.asset_bundles.proofs.Lemmas.BundleLaws.{total-bundle_of, found-holding}
use Rattle.asset_bundles.proofs.Finding.{total-fungible}
use Rattle.asset_bundles.proofs.items.total.Goals as goal

pub returns-in-Fungible : goal.returns-in-Fungible
returns-in-Fungible c =
    c.amount_held.ensures ∙ found-holding c.args.items.now _ c.requires
    ∙ total-fungible c.args.id.now (bundle_of c.args.items.now) ∙ ap (λ k. total (is_asset c.args.id.now k) (bundle_of c.args.items.now)) (sym c.in-Fungible.is)

pub returns-in-Class : goal.returns-in-Class
returns-in-Class c =
    c.count.ensures ∙ sym (total-bundle_of (is_asset c.args.id.now Kind.Class) c.args.items.now) ∙ ap (λ k. total (is_asset c.args.id.now k) (bundle_of c.args.items.now)) (sym c.in-Class.is)
