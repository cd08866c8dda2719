use Rattle.std.proofs.Common.{ap, ◌∙◌}
use Rattle.asset_bundles.specs.Bundles.{bundle_of}
use Rattle.asset_bundles.proofs.SumFacts.{excess_at, list_held}
use Rattle.asset_bundles.proofs.bundle.AssetBundle.excess.Goals as goal

pub returns-clause-listed : goal.returns-clause-listed
returns-clause-listed c =
    list_held _ _ (excess_at _ _ _ _ _ c.in_ok-assets.ensures (ap bundle_of c.as_slice-2.ensures.value ∙ c.self.view_is) (ap bundle_of c.as_slice-3.ensures.value ∙ c.other.view_is))
