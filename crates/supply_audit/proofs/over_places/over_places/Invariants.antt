use Rattle.std.proofs.Common.{◌≡◌, min, map, take}
use Rattle.std.specs.Prelude.{sum_by}
use Rattle.asset_bundles.specs.Books.{most_burned}
use Rattle.asset_bundles.specs.Totals.{total_value}
use Rattle.chain_state.specs.PartOf.{part_of}
use Rattle.supply_audit.specs.RowPlaces.{place_share}
use Rattle.supply_audit.proofs.over_places.over_places.Given as goal

abbrev pub invariant-loop-place : goal.invariant-loop-place
invariant-loop-place l = total_value l.total ≡ min (sum_by (place_share l.which (map part_of l.chains)) (take l.place-index l.places)) most_burned
