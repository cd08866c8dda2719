use Rattle.std.proofs.Common.{ap, ◌∙◌, None}
use Rattle.amounts.specs.Amounts.{amount}
use Rattle.asset_bundles.specs.Bundles.{found}
use Rattle.asset_bundles.proofs.Lemmas.BundleLaws.{found-holding}
use Rattle.asset_bundles.proofs.bundle.AssetBundle.amount_by.Goals as goal

pub returns : goal.returns
returns c =
    c.amount_by.ensures ∙ ap (found (c.args.id.now, None)) c.as_slice.ensures.value
    ∙ found-holding _ _ c.self.invariant ∙ ap (λ b. amount b (c.args.id.now, None)) c.self.view_is
