use Rattle.std.proofs.Common.{◌∙◌, arith}
use Rattle.location_wire.proofs.TextLaws.{spelled_read, spelled_fits}
use Rattle.location_wire.proofs.text_reading.front_junction.Goals as goal

pub returns-clause-found : goal.returns-clause-found
returns-clause-found c = λ j h e. c.ok.ensures.value ∙ spelled_read j c.new.result c.take_junction.result c.take_junction.new.c h (c.new.ensures ∙ e) c.take_junction.ensures

pub returns-clause-fits : goal.returns-clause-fits
returns-clause-fits c =
    rw c.ok.ensures.value (spelled_fits c.args.bytes.now c.new.result c.take_junction.result c.take_junction.new.c (λ i. omega (arith, c.type_inv.bytes i)) c.new.ensures c.take_junction.ensures)
