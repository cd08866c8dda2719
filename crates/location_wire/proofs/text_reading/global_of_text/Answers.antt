use Rattle.location_wire.proofs.TextLaws.{global_fits}
use Rattle.location_wire.proofs.text_reading.global_of_text.Goals as goal

pub returns-clause-fits : goal.returns-clause-fits
returns-clause-fits c = global_fits c.in_ok-network.network c.args.inside.now c.in_ok-network.ensures.named
