use Rattle.std.proofs.Common.{◌≡◌, min, map, take}
use Rattle.std.specs.Prelude.{sum_by}
use Rattle.asset_bundles.specs.Books.{most_burned}
use Rattle.asset_bundles.specs.Totals.{total_value}
use Rattle.trust_tables.specs.Accounts.{sovereign_account}
use Rattle.chain_state.specs.PartOf.{part_of}
use Rattle.supply_audit.specs.declared.figures.Figure.TheVariants.{Account}
use Rattle.supply_audit.specs.Held.{IsHeldRight}
use Rattle.supply_audit.specs.RowPlaces.{place_share}
use Rattle.supply_audit.proofs.over_places.held_over.Given as goal

abbrev pub invariant-loop-place : goal.invariant-loop-place
invariant-loop-place l = record {
  right : IsHeldRight l.found (map part_of l.chains);
  sum : total_value l.total ≡ min (sum_by (place_share (Account (sovereign_account l.there l.here)) (map part_of l.chains)) (take l.place-index l.places)) most_burned;
}
