use Rattle.std.proofs.Common.{◌≡◌, Some, sym, ◌∙◌}
use Rattle.std.proofs.lemmas.Result.{IfOk-weaker}
use Rattle.hex.specs.Hex.{encode_lower}
use Rattle.locations.specs.declared.grammar.Junction.{Junction}
use Rattle.location_wire.specs.Spelling.{junction}
use Rattle.location_wire.specs.Texts.{IsJunction, junction_text}
use Rattle.location_wire.proofs.TextLaws.{text_behind_0x, text_by_name, text_named, named_name}
use Rattle.location_wire.proofs.text_reading.junction_of_text.Goals as goal

pub returns-in-Some-clause-found : goal.returns-in-Some-clause-found
returns-in-Some-clause-found c =
    IfOk-weaker c.spelled_junction.result (λ o. (j : Junction) → IsJunction j → c.in-Some.digits.now ≡ encode_lower (junction j) → o ≡ Some j)
    (λ o. (j : Junction) → IsJunction j → c.args.part.now ≡ junction_text j → o ≡ Some j)
    (λ o read j h e. read j h (text_behind_0x j c.in-Some.digits.now (sym c.in-Some.ensures ∙ e)))
    c.spelled_junction.ensures.found

pub returns-in_default-name_and_inside-clause-found : goal.returns-in_default-name_and_inside-clause-found
returns-in_default-name_and_inside-clause-found c = λ j h e.
    let x = text_by_name j (λ rest k. c.in_default.ensures rest (e ∙ k)) in
    absurd (c.in_default-name_and_inside.ensures x.0.0 x.0.1 (named_name j x.0 x.1).0 (e ∙ text_named j x.0 x.1))

pub returns-clause-found : goal.returns-clause-found
returns-clause-found c = λ j h e.
    let x = text_by_name j (λ rest k. c.in_default.ensures rest (e ∙ k)) in
    let parts = c.in-Some-name_and_inside.ensures x.0.0 x.0.1 (named_name j x.0 x.1).0 (e ∙ text_named j x.0 x.1) in
    c.named_junction.ensures.found j h (rw (parts.0, parts.1) x.1)
