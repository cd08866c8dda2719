use Rattle.std.proofs.Common.{◌≡◌, eqb, length, refl, ap, sym, ◌∙◌}
use Rattle.std.specs.List.{slice_split}
use Rattle.location_wire.proofs.Lemmas.Slashes.{location_parts}
use Rattle.location_wire.proofs.TextLaws.{no_parts, first_part, parents_read}
use Rattle.location_wire.proofs.text_reading.fill_location.Goals as goal

pub returns-in_default-clause-found : goal.returns-in_default-clause-found
returns-in_default-clause-found c = λ l h.
    let parts = c.in_ok-parts.ensures ∙ ap (slice_split (λ b. eqb b 47)) h.1 ∙ location_parts l h.0 in
    absurd (no_parts c.in_ok-parts.parts.items _ _ parts (ap length (sym c.as_slice.ensures.value) ∙ c.in_default.ensures.cases))

pub returns-in_default-parse-clause-found : goal.returns-in_default-parse-clause-found
returns-in_default-parse-clause-found c = λ l h.
    let parts = c.in_ok-parts.ensures ∙ ap (slice_split (λ b. eqb b 47)) h.1 ∙ location_parts l h.0 in
    let first = first_part c.in_ok-parts.parts.items c.in-Some.steps.now c.in-Some.first.now _ _ parts (sym c.as_slice.ensures.value ∙ c.in-Some.ensures.cases.0) in
    absurd (cc (parents_read l c.in-Some.first.now.now c.parse.result h.0 c.parse.ensures.value.0 first.0, c.in_default-parse.is))

pub returns-clause-found : goal.returns-clause-found
returns-clause-found c = λ l h.
    let parts = c.in_ok-parts.ensures ∙ ap (slice_split (λ b. eqb b 47)) h.1 ∙ location_parts l h.0 in
    let first = first_part c.in_ok-parts.parts.items c.in-Some.steps.now c.in-Some.first.now _ _ parts (sym c.as_slice.ensures.value ∙ c.in-Some.ensures.cases.0) in
    let interior = c.in_ok-filled.ensures.found l.interior h.0.1 h.0.2 first.1 in
    let parents : c.in-Ok.parents ≡ l.parents = cc (parents_read l c.in-Some.first.now.now c.parse.result h.0 c.parse.ensures.value.0 first.0, c.in-Ok.is) in
    (interior.0, rw (parents, interior.1) refl)
