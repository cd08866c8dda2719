use Rattle.std.proofs.Common.{map, take}
use Rattle.std.specs.Prelude.{sum_by}
use Rattle.chain_state.specs.PartOf.{part_of}
use Rattle.supply_audit.specs.declared.figures.Carried.TheVariants.{Teleports}
use Rattle.supply_audit.specs.Found.{IsRightOf}
use Rattle.supply_audit.specs.RowPlaces.{place_share}
use Rattle.supply_audit.specs.Supplies.{HasSums}
use Rattle.supply_audit.proofs.over_places.supply_over.Given as goal

abbrev pub invariant-loop-place : goal.invariant-loop-place
invariant-loop-place l = record {
  right : IsRightOf l.found Teleports (map part_of l.chains);
  sums : HasSums l.total (λ f. sum_by (place_share f (map part_of l.chains)) (take l.place-index l.places));
}
