use Rattle.std.proofs.Common.{◌≡◌, [], ap, sym, subst, ◌∙◌, rules}
use Rattle.asset_bundles.specs.Filters.{Taken}
use Rattle.asset_bundles.specs.Bundles.{bundle_of, IsHolding}
use Rattle.asset_bundles.specs.Joins.{IsWithinMost}
use Rattle.asset_bundles.proofs.Lemmas.{left_and_taken}
use Rattle.asset_bundles.specs.Portions.{AreWithinMost}
use Rattle.asset_bundles.proofs.SumFacts.{within_most_of, whole_again}
use Rattle.asset_bundles.proofs.Lemmas.BundleLaws.{none_held}
use Rattle.asset_bundles.proofs.Whole.{none_left, all_of, none_and_all}
use Rattle.asset_bundles.proofs.bundle.AssetBundle.take.Goals as goal

pub invariant_of-self : goal.invariant_of-self
invariant_of-self c = subst IsHolding (sym (search rules)) none_held

pub returns-then-takes_all-clause-left : goal.returns-then-takes_all-clause-left
returns-then-takes_all-clause-left c =
    let all : Taken c.args.filter.now c.args.self.now ≡ c.args.self.now =
    all_of c.args.filter.now c.as_slice-2.result.now c.args.self.now (c.takes_all.ensures c.if-takes_all.true) (ap bundle_of c.as_slice-2.ensures.value ∙ c.self.view_is) in
    none_left c.args.filter.now c.args.self.now _ all (search rules)

pub returns-then-takes_all-clause-whole : goal.returns-then-takes_all-clause-whole
returns-then-takes_all-clause-whole c =
    let all : Taken c.args.filter.now c.args.self.now ≡ c.args.self.now =
    all_of c.args.filter.now c.as_slice-2.result.now c.args.self.now (c.takes_all.ensures c.if-takes_all.true) (ap bundle_of c.as_slice-2.ensures.value ∙ c.self.view_is) in
    none_and_all c.args.filter.now c.args.self.now _ _ all (search rules) (search rules)

pub returns-then-takes_all-clause-fits_back : goal.returns-then-takes_all-clause-fits_back
returns-then-takes_all-clause-fits_back c =
    let all : Taken c.args.filter.now c.args.self.now ≡ c.args.self.now =
    all_of c.args.filter.now c.as_slice-2.result.now c.args.self.now (c.takes_all.ensures c.if-takes_all.true) (ap bundle_of c.as_slice-2.ensures.value ∙ c.self.view_is) in
    subst IsWithinMost (sym (none_and_all c.args.filter.now c.args.self.now _ _ all (search rules) (search rules)))
    (within_most_of c.args.self.now c.self.inside.items.items c.self.invariant (subst AreWithinMost c.as_slice.ensures.value c.amounts_fit.ensures) c.self.view_is)

pub parted-requires : goal.parted-requires
parted-requires c = subst IsHolding (sym c.as_slice-3.ensures.value) c.self.invariant

pub returns-clause-whole : goal.returns-clause-whole
returns-clause-whole c =
    whole_again _ _ _ _ _ c.in_ok-taken.ensures.left c.in_ok-taken.ensures.taken
    (left_and_taken c.args.filter.now (bundle_of c.as_slice-3.result.now) ∙ ap bundle_of c.as_slice-3.ensures.value ∙ c.self.view_is)

pub returns-clause-fits_back : goal.returns-clause-fits_back
returns-clause-fits_back c =
    subst IsWithinMost
    (sym (whole_again _ _ _ _ _ c.in_ok-taken.ensures.left c.in_ok-taken.ensures.taken
    (left_and_taken c.args.filter.now (bundle_of c.as_slice-3.result.now) ∙ ap bundle_of c.as_slice-3.ensures.value ∙ c.self.view_is)))
    (within_most_of c.args.self.now c.self.inside.items.items c.self.invariant (subst AreWithinMost c.as_slice.ensures.value c.amounts_fit.ensures) c.self.view_is)
