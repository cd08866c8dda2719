use Rattle.std.proofs.Common.{◌≡◌, min, take}
use Rattle.asset_bundles.specs.Books.{most_burned}
use Rattle.asset_bundles.specs.Totals.{total_value}
use Rattle.std.specs.Prelude.{sum_by}
use Rattle.locations.specs.Chains.{path_of}
use Rattle.chain_state.specs.PartOf.{part_of}
use Rattle.supply_audit.specs.Places.{figure, row_share}
use Rattle.supply_audit.proofs.places.over_rows.Given as goal

abbrev pub invariant-loop-row : goal.invariant-loop-row
invariant-loop-row l = total_value l.total ≡ min (sum_by (row_share (part_of l.chain) (path_of l.home l.id, l.kind) (figure l.which (part_of l.chain))) (take l.row-index l.rows)) most_burned
