use Rattle.std.proofs.Common.{ap, sym, subst, ◌∙◌}
use Rattle.asset_bundles.specs.Bundles.{bundle_of, IsHolding}
use Rattle.asset_bundles.proofs.Lemmas.BundleLaws.{bundle_of-none, none_held}
use Rattle.asset_bundles.proofs.bundle.AssetBundle.empty.Goals as goal

pub invariant_of-result : goal.invariant_of-result
invariant_of-result c = subst IsHolding (sym c.new.ensures.items) none_held

pub returns : goal.returns
returns c = ap bundle_of c.new.ensures.items ∙ bundle_of-none
