use Rattle.std.proofs.Common.{◌≤◌, List, sym, subst}
use Rattle.asset_lists.specs.declared.units.Asset.{Asset}
use Rattle.asset_lists.specs.Units.{Unit}
use Rattle.asset_lists.specs.Moves.{occurrences}
use Rattle.asset_bundles.proofs.bundle.AssetBundle.mint.Goals as goal

pub of_list-requires-clause-once : goal.of_list-requires-clause-once
of_list-requires-clause-once c = subst (λ (xs : List Asset). (unit : Unit) → occurrences unit xs ≤ 1) (sym c.in_ok-made.ensures) c.requires.once
