use Rattle.std.proofs.Common.{sym, ap, subst}
use Rattle.asset_bundles.specs.Bundles.{bundle_of, IsHolding}
use Rattle.asset_bundles.proofs.Parts.{rest_list}
use Rattle.asset_bundles.proofs.portions.cut.Goals as goal

pub returns-clause-taken : goal.returns-clause-taken
returns-clause-taken c = record { holding = subst IsHolding (sym c.in_ok-taken.ensures) c.requires.asked; bundle = ap bundle_of c.in_ok-taken.ensures }

pub returns-clause-left : goal.returns-clause-left
returns-clause-left c = rest_list c.args.items.now c.args.asked.now _ c.requires.asked c.requires.items c.in_ok-left.ensures
