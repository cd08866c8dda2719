use Rattle.std.proofs.Common.{ap, sym, ◌∙◌, subst}
use Rattle.asset_bundles.specs.Bundles.{IsHolding, bundle_of, held_assets}
use Rattle.asset_bundles.proofs.Lemmas.BundleLaws.{held_assets-holding}
use Rattle.asset_bundles.proofs.units.Units.items.Goals as goal

pub returns-clause-listed : goal.returns-clause-listed
returns-clause-listed c = c.as_slice.ensures.value ∙ sym (held_assets-holding _ c.self.invariant) ∙ ap held_assets c.self.view_is

pub returns-clause-bundle : goal.returns-clause-bundle
returns-clause-bundle c = ap bundle_of c.as_slice.ensures.value ∙ c.self.view_is

pub returns-clause-holding : goal.returns-clause-holding
returns-clause-holding c = subst IsHolding (sym c.as_slice.ensures.value) c.self.invariant
