use Rattle.location_wire.proofs.TextLaws.{one_location}
use Rattle.location_wire.proofs.laws.law_of_one_location.Goals as goal

pub returns : goal.returns
returns c = one_location
