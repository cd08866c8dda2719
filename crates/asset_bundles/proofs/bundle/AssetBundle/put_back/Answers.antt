use Rattle.std.proofs.Common.{ap, ◌∙◌}
use Rattle.asset_bundles.specs.Bundles.{bundle_of}
use Rattle.asset_bundles.proofs.Lemmas.{joined_within}
use Rattle.asset_bundles.proofs.SumFacts.{joined_at}
use Rattle.asset_bundles.proofs.bundle.AssetBundle.put_back.Goals as goal

pub returns-in-Ok-clause-whole : goal.returns-in-Ok-clause-whole
returns-in-Ok-clause-whole c =
    (joined_at _ _ _ _ _ c.in-Ok.ensures (ap bundle_of c.as_slice-2.ensures.value ∙ c.self.view_is) (ap bundle_of c.as_slice-3.ensures.value ∙ c.goods.view_is)).bundle
    ∙ joined_within c.args.self.now c.args.goods c.requires
