use Rattle.std.proofs.Common.{ap, sym, subst, ◌∙◌}
use Rattle.amounts.specs.Amounts.{minus}
use Rattle.asset_lists.specs.Units.{unit_of, amount_of}
use Rattle.asset_bundles.specs.Bundles.{bundle_of, IsHolding}
use Rattle.asset_bundles.proofs.Giving.{spent_holding, spent_minus}
use Rattle.asset_bundles.proofs.bundle.AssetBundle.spend.Goals as goal

pub invariant_of-self : goal.invariant_of-self
invariant_of-self c = subst IsHolding (sym c.give_up.ensures) (spent_holding (unit_of c.args.asset.now) (amount_of c.args.asset.now) c.self.inside.items.items c.self.invariant)

pub returns : goal.returns
returns c =
    ap bundle_of c.give_up.ensures ∙ spent_minus (unit_of c.args.asset.now) (amount_of c.args.asset.now) c.self.inside.items.items c.self.invariant
    ∙ ap (λ b. minus b (unit_of c.args.asset.now) (amount_of c.args.asset.now)) c.self.view_is
