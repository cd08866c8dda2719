use Rattle.std.proofs.Common.{Some, ap, ◌∙◌, arith}
use Rattle.locations.specs.declared.grammar.Junction.TheVariants.{Parachain}
use Rattle.location_wire.proofs.TextLaws.{parachain_read, parachain_fits, read_as}
use Rattle.location_wire.proofs.text_reading.parachain_of_text.Goals as goal

pub returns-in_err-id-clause-found : goal.returns-in_err-id-clause-found
returns-in_err-id-clause-found c = λ j h e.
    let s = parachain_read j c.args.inside.now c.parse.result c.ok.result h e c.parse.ensures.value.0 c.ok.ensures.value in
    absurd (cc (s.1, c.in_err-id.was))

pub returns-clause-found : goal.returns-clause-found
returns-clause-found c = λ j h e.
    let s = parachain_read j c.args.inside.now c.parse.result c.ok.result h e c.parse.ensures.value.0 c.ok.ensures.value in
    ap Some (ap Parachain (read_as c.ok.result c.in_ok-id.id s.0 c.in_ok-id.was s.1) ∙ s.2)

pub returns-clause-fits : goal.returns-clause-fits
returns-clause-fits c = parachain_fits c.in_ok-id.id (omega arith)
