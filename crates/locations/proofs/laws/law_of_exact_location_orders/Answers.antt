use Rattle.locations.proofs.Lemmas.OrderLaws.{networks_exactly, bodies_exactly, parts_exactly, junctions_exactly, interiors_exactly, locations_exactly}
use Rattle.locations.proofs.laws.law_of_exact_location_orders.Goals as goal

pub returns : goal.returns
returns c = record {
  networks = networks_exactly;
  bodies = bodies_exactly;
  parts = parts_exactly;
  junctions = junctions_exactly;
  interiors = interiors_exactly;
  locations = locations_exactly;
}
