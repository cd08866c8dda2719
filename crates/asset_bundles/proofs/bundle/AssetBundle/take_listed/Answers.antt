use Rattle.std.proofs.Common.{ap, sym, subst, ◌∙◌}
use Rattle.asset_lists.specs.declared.filters.Filter.TheVariants.{Definite}
use Rattle.asset_bundles.specs.Bundles.{bundle_of, IsHolding}
use Rattle.asset_bundles.specs.Joins.{IsWithinMost}
use Rattle.asset_bundles.proofs.Lemmas.{left_and_taken}
use Rattle.asset_bundles.specs.Portions.{AreWithinMost}
use Rattle.asset_bundles.proofs.SumFacts.{within_most_of, whole_again}
use Rattle.asset_bundles.proofs.bundle.AssetBundle.take_listed.Goals as goal

pub parted_by_list-requires : goal.parted_by_list-requires
parted_by_list-requires c = subst IsHolding (sym c.as_slice-2.ensures.value) c.self.invariant

pub returns-clause-whole : goal.returns-clause-whole
returns-clause-whole c =
    whole_again _ _ _ _ _ c.in_ok-taken.ensures.left c.in_ok-taken.ensures.taken
    (left_and_taken (Definite c.args.list.now) (bundle_of c.as_slice-2.result.now) ∙ ap bundle_of c.as_slice-2.ensures.value ∙ c.self.view_is)

pub returns-clause-fits_back : goal.returns-clause-fits_back
returns-clause-fits_back c =
    subst IsWithinMost
    (sym (whole_again _ _ _ _ _ c.in_ok-taken.ensures.left c.in_ok-taken.ensures.taken
    (left_and_taken (Definite c.args.list.now) (bundle_of c.as_slice-2.result.now) ∙ ap bundle_of c.as_slice-2.ensures.value ∙ c.self.view_is)))
    (within_most_of c.args.self.now c.self.inside.items.items c.self.invariant (subst AreWithinMost c.as_slice.ensures.value c.amounts_fit.ensures) c.self.view_is)
