use Rattle.std.proofs.Common.{Some, ap, ◌∙◌, arith}
use Rattle.locations.specs.declared.grammar.Junction.TheVariants.{PalletInstance}
use Rattle.location_wire.proofs.TextLaws.{pallet_read, pallet_fits, read_as}
use Rattle.location_wire.proofs.text_reading.pallet_of_text.Goals as goal

pub returns-in_err-index-clause-found : goal.returns-in_err-index-clause-found
returns-in_err-index-clause-found c = λ j h e.
    let s = pallet_read j c.args.inside.now c.parse.result c.ok.result h e c.parse.ensures.value.0 c.ok.ensures.value in
    absurd (cc (s.1, c.in_err-index.was))

pub returns-clause-found : goal.returns-clause-found
returns-clause-found c = λ j h e.
    let s = pallet_read j c.args.inside.now c.parse.result c.ok.result h e c.parse.ensures.value.0 c.ok.ensures.value in
    ap Some (ap PalletInstance (read_as c.ok.result c.in_ok-index.index s.0 c.in_ok-index.was s.1) ∙ s.2)

pub returns-clause-fits : goal.returns-clause-fits
returns-clause-fits c = pallet_fits c.in_ok-index.index (omega arith)
