use Rattle.std.proofs.Common.{ap, sym, subst, ◌∙◌}
use Rattle.amounts.specs.Amounts.{merge, difference}
use Rattle.amounts.proofs.Lemmas.{merge-difference}
use Rattle.asset_bundles.specs.Bundles.{bundle_of, IsHolding}
use Rattle.asset_bundles.proofs.Lemmas.Bundles.{unit_keys}
use Rattle.asset_bundles.specs.Joins.{IsWithinMost}
use Rattle.asset_bundles.specs.Portions.{AreWithinMost}
use Rattle.asset_bundles.proofs.Listing.{holding_of_list}
use Rattle.asset_bundles.proofs.SumFacts.{within_most_of, whole_again}
use Rattle.asset_bundles.proofs.bundle.AssetBundle.try_take.Goals as goal

pub cut-requires-clause-asked : goal.cut-requires-clause-asked
cut-requires-clause-asked c = subst IsHolding (sym c.items.ensures.value) (holding_of_list c.args.list.now c.items.ensures.list)

pub returns-clause-whole : goal.returns-clause-whole
returns-clause-whole c =
    whole_again _ _ _ _ _ c.in_ok-taken.ensures.left c.in_ok-taken.ensures.taken
    ((λ i. merge (difference ((ap bundle_of c.as_slice-2.ensures.value ∙ c.self.view_is) i) (bundle_of (c.items.ensures.value i))) (bundle_of (c.items.ensures.value i)))
    ∙ merge-difference unit_keys c.args.self.now (bundle_of c.args.list.now) (c.contains.ensures.0 c.if-not-contains.false))

pub returns-clause-fits_back : goal.returns-clause-fits_back
returns-clause-fits_back c =
    subst IsWithinMost
    (sym (whole_again _ _ _ _ _ c.in_ok-taken.ensures.left c.in_ok-taken.ensures.taken
    ((λ i. merge (difference ((ap bundle_of c.as_slice-2.ensures.value ∙ c.self.view_is) i) (bundle_of (c.items.ensures.value i))) (bundle_of (c.items.ensures.value i)))
    ∙ merge-difference unit_keys c.args.self.now (bundle_of c.args.list.now) (c.contains.ensures.0 c.if-not-contains.false))))
    (within_most_of c.args.self.now c.self.inside.items.items c.self.invariant (subst AreWithinMost c.as_slice.ensures.value c.amounts_fit.ensures) c.self.view_is)
