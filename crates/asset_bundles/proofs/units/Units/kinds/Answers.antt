use Rattle.std.proofs.Common.{◌≡◌, ap, ◌∙◌, length, arith}
use Rattle.amounts.specs.Amounts.{rows}
use Rattle.asset_bundles.proofs.Lemmas.BundleLaws.{kinds-holding}
use Rattle.asset_bundles.proofs.units.Units.kinds.Goals as goal

pub returns : goal.returns
returns c =
    let kinds : length c.self.inside.items.items ≡ length (rows c.args.self.now) = kinds-holding _ c.self.invariant ∙ ap (λ b. length (rows b)) c.self.view_is in
    omega (arith, c.len.ensures, kinds)
