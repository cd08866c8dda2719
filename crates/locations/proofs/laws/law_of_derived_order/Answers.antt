use Rattle.locations.proofs.DerivedOrders.{networks_same, bodies_same, parts_same, junctions_same}
use Rattle.locations.proofs.laws.law_of_derived_order.Goals as goal

pub returns : goal.returns
returns c = record { networks = networks_same; bodies = bodies_same; parts = parts_same; junctions = junctions_same }
