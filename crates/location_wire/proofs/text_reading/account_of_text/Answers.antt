use Rattle.std.proofs.Common.{Some, None, ap, ◌∙◌}
use Rattle.std.specs.Result.{result_ok}
use Rattle.hex.specs.Hex.{encode_lower}
use Rattle.locations.specs.declared.grammar.Junction.TheVariants.{AccountId32}
use Rattle.location_wire.proofs.TextLaws.{is_account, account_read, account_fits, read_as}
use Rattle.location_wire.proofs.text_reading.account_of_text.Goals as goal

pub returns-in_err-digits-clause-found : goal.returns-in_err-digits-clause-found
returns-in_err-digits-clause-found c = λ j h e. let p = is_account j c.args.inside.now e in absurd (c.in_err-digits.ensures (encode_lower p.0) p.2)

pub returns-in_err-id-clause-found : goal.returns-in_err-id-clause-found
returns-in_err-id-clause-found c = λ j h e.
    let s = account_read j c.args.inside.now c.in_ok-digits.digits.now c.ok.result h e c.in_ok-digits.ensures (c.ok.ensures.value ∙ ap result_ok c.from_hex.ensures) in
    absurd (cc (s.1, c.in_err-id.was))

pub returns-clause-found : goal.returns-clause-found
returns-clause-found c = λ j h e.
    let s = account_read j c.args.inside.now c.in_ok-digits.digits.now c.ok.result h e c.in_ok-digits.ensures (c.ok.ensures.value ∙ ap result_ok c.from_hex.ensures) in
    ap Some (ap (AccountId32 None) (read_as c.ok.result c.in_ok-id.id s.0 c.in_ok-id.was s.1) ∙ s.2)

pub returns-clause-fits : goal.returns-clause-fits
returns-clause-fits c = account_fits c.in_ok-digits.digits.now c.in_ok-id.id c.ok.result (c.ok.ensures.value ∙ ap result_ok c.from_hex.ensures) c.in_ok-id.was
