use Rattle.std.proofs.Common.{ap, sym, subst, ◌∙◌}
use Rattle.amounts.specs.Amounts.{total}
use Rattle.asset_bundles.specs.Bundles.{bundle_of, is_asset, IsHolding}
use Rattle.asset_bundles.proofs.units.Units.total.Goals as goal

pub total-requires : goal.total-requires
total-requires c = subst IsHolding (sym c.as_slice.ensures.value) c.self.invariant

pub returns : goal.returns
returns c = c.total.ensures ∙ ap (λ xs. total (is_asset c.args.id.now c.args.kind) (bundle_of xs)) c.as_slice.ensures.value ∙ ap (total (is_asset c.args.id.now c.args.kind)) c.self.view_is
