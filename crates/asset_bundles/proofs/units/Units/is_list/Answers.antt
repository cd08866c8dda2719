use Rattle.std.proofs.Common.{◌≡◌, ap, sym, ◌∙◌}
use Rattle.std.specs.Ordering.{eq_by_cmp}
use Rattle.asset_lists.specs.Units.{assets_cmp}
use Rattle.asset_lists.proofs.Lemmas.UnitLaws.{assets_decide}
use Rattle.asset_bundles.specs.Bundles.{bundle_of, held_assets}
use Rattle.asset_bundles.proofs.Lemmas.BundleLaws.{held_assets-holding}
use Rattle.asset_bundles.proofs.Listing.{holding_of_list}
use Rattle.asset_bundles.proofs.units.Units.is_list.Goals as goal

pub returns : goal.returns
returns c =
    let xs = c.self.inside.items.items in
    let ys = c.args.list.now in
    let test : c.are_same.result ≡ eq_by_cmp assets_cmp xs ys =
    c.are_same.ensures ∙ ap (λ zs. eq_by_cmp assets_cmp zs c.items.result.now) c.as_slice.ensures.value ∙ ap (eq_by_cmp assets_cmp xs) c.items.ensures.value in (
      λ same. sym c.self.view_is ∙ ap bundle_of ((assets_decide xs ys).0 (sym test ∙ same)),
      λ same. test ∙ (assets_decide xs ys).1 (sym (held_assets-holding xs c.self.invariant) ∙ ap held_assets (c.self.view_is ∙ same) ∙ held_assets-holding ys (holding_of_list ys c.items.ensures.list)),
    )
