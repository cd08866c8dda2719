use Rattle.std.proofs.Common.{◌≡◌, ap, ◌∙◌, inl, inr}
use Rattle.hex.specs.Hex.{decode_of}
use Rattle.location_wire.specs.Spelling.{junction}
use Rattle.location_wire.proofs.Lemmas.Slashes.{decode_spelled}
use Rattle.location_wire.proofs.text_reading.spelled_junction.Goals as goal

pub returns-in-Ok-clause-found : goal.returns-in-Ok-clause-found
returns-in-Ok-clause-found c = λ j h e.
    let back = ap decode_of e ∙ decode_spelled (junction j) h.1 in
    let same : c.in-Ok.bytes.items ≡ junction j = cc (back, c.in-Ok.ensures.ok) in
    c.front_junction.ensures.found j h (c.as_slice.ensures.value ∙ same)

pub returns-in_default-clause-found : goal.returns-in_default-clause-found
returns-in_default-clause-found c = λ j h e.
    let back = ap decode_of e ∙ decode_spelled (junction j) h.1 in
    elim c.in-Err.ensures.err [ inl m ↦ absurd (c.in_default.not-OutOfMemory m) | inr d ↦ absurd (cc (d, back)) ]
