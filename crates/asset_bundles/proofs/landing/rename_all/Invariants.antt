use Rattle.std.proofs.Common.{◌≡◌}
use Rattle.asset_bundles.proofs.Naming.{renamed_first}
use Rattle.asset_bundles.proofs.landing.rename_all.Given as goal

abbrev pub invariant-loop-item : goal.invariant-loop-item
invariant-loop-item l = l.item-items ≡ renamed_first l.target l.context l.item-index l.fn.items.items
