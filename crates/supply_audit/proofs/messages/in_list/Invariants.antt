use Rattle.std.proofs.Common.{◌≡◌, min, take}
use Rattle.asset_lists.specs.declared.units.AssetId.TheVariants.{Concrete}
use Rattle.std.specs.Prelude.{sum_by}
use Rattle.asset_bundles.specs.Books.{most_burned}
use Rattle.asset_bundles.specs.Totals.{total_value}
use Rattle.supply_audit.specs.Places.{list_share}
use Rattle.supply_audit.proofs.messages.in_list.Given as goal

abbrev pub invariant-loop-asset : goal.invariant-loop-asset
invariant-loop-asset l = total_value l.total ≡ min (sum_by (list_share (Concrete l.id) l.kind) (take l.asset-index l.assets)) most_burned
