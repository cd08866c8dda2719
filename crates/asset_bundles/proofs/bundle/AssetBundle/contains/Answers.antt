use Rattle.std.proofs.Common.{◌≡◌, sym, subst, ap, ◌∙◌}
use Rattle.std.specs.Prelude.{nat_le}
use Rattle.std.specs.List.{list_all}
use Rattle.amounts.specs.Amounts.{IsWithin}
use Rattle.asset_lists.specs.Units.{unit_of, amount_of}
use Rattle.asset_bundles.specs.Bundles.{bundle_of, found}
use Rattle.asset_bundles.proofs.Finding.{within_from_holds, holds_from_within}
use Rattle.asset_bundles.proofs.Listing.{holding_of_list}
use Rattle.asset_bundles.proofs.bundle.AssetBundle.contains.Goals as goal

pub returns : goal.returns
returns c =
    let all : c.holds.result ≡ list_all (λ a. nat_le (amount_of a) (found (unit_of a) c.self.inside.items.items)) c.args.list.now =
    c.holds.ensures ∙ ap (λ xs. list_all (λ a. nat_le (amount_of a) (found (unit_of a) xs)) c.items.result.now) c.as_slice.ensures.value
    ∙ ap (list_all (λ a. nat_le (amount_of a) (found (unit_of a) c.self.inside.items.items))) c.items.ensures.value in (
      λ holds. subst (IsWithin (bundle_of c.args.list.now)) c.self.view_is
          (within_from_holds c.self.inside.items.items c.args.list.now c.self.invariant (holding_of_list c.args.list.now c.items.ensures.list) (sym all ∙ holds)),
      λ within. all ∙ holds_from_within c.self.inside.items.items c.args.list.now c.self.invariant (subst (IsWithin (bundle_of c.args.list.now)) (sym c.self.view_is) within),
    )
