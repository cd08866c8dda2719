use Rattle.std.proofs.Common.{◌≡◌, min, map, take}
use Rattle.std.specs.Prelude.{Some, sum_by}
use Rattle.asset_bundles.specs.Books.{most_burned}
use Rattle.asset_bundles.specs.Totals.{total_value}
use Rattle.chain_state.specs.PartOf.{part_of}
use Rattle.supply_audit.specs.declared.figures.Figure.TheVariants.{Sent}
use Rattle.supply_audit.specs.Found.{IsRightOf}
use Rattle.supply_audit.specs.RowPlaces.{place_share}
use Rattle.supply_audit.proofs.over_places.sent_over.Given as goal

abbrev pub invariant-loop-place : goal.invariant-loop-place
invariant-loop-place l = record {
  right : IsRightOf l.found l.what (map part_of l.chains);
  sum : total_value l.total ≡ min (sum_by (place_share (Sent l.what (Some l.to)) (map part_of l.chains)) (take l.place-index l.places)) most_burned;
}
