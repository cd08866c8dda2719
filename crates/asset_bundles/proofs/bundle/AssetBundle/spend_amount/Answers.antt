use Rattle.std.proofs.Common.{ap, sym, subst, ◌∙◌}
use Rattle.std.specs.Prelude.{None}
use Rattle.amounts.specs.Amounts.{minus}
use Rattle.asset_bundles.specs.Bundles.{bundle_of, IsHolding}
use Rattle.asset_bundles.proofs.Giving.{spent_holding, spent_minus}
use Rattle.asset_bundles.proofs.bundle.AssetBundle.spend_amount.Goals as goal

pub invariant_of-self : goal.invariant_of-self
invariant_of-self c = subst IsHolding (sym c.give_up_amount.ensures) (spent_holding (c.args.id.now, None) c.args.less c.self.inside.items.items c.self.invariant)

pub returns : goal.returns
returns c =
    ap bundle_of c.give_up_amount.ensures ∙ spent_minus (c.args.id.now, None) c.args.less c.self.inside.items.items c.self.invariant
    ∙ ap (λ b. minus b (c.args.id.now, None) c.args.less) c.self.view_is
