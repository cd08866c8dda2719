use Rattle.std.proofs.Common.{◌∙◌, [], ◌∷◌, ◌++◌, refl, ap}
use Rattle.locations.specs.declared.grammar.Junction.{Junction}
use Rattle.location_wire.specs.Spelling.{junction}
use Rattle.tree_reading.proofs.Paths.{one_fits, one_bytes}
use Rattle.tree_reading.proofs.places.put_junction.Goals as goal

pub returns-in_default : goal.returns-in_default
returns-in_default c = λ j fits bytes e. absurd (rw c.in_default.is at (c.in_ok-place.ensures (j ∷ []) (one_fits j fits) (one_bytes j bytes) e))

pub returns-in_default-only_one : goal.returns-in_default-only_one
returns-in_default-only_one c = λ j fits bytes e.
    let led = rw c.in-Some.is at (c.in_ok-place.ensures (j ∷ []) (one_fits j fits) (one_bytes j bytes) e) in
    absurd (rw c.in_default-only_one.is at (c.only_one.ensures j (c.items.ensures.value ∙ led)))

pub returns : goal.returns
returns c = λ j fits bytes e.
    let led = rw c.in-Some.is at (c.in_ok-place.ensures (j ∷ []) (one_fits j fits) (one_bytes j bytes) e) in
    let one = rw c.in-Some-only_one.is at (c.only_one.ensures j (c.items.ensures.value ∙ led)) in
    (refl, c.in_ok-write_junction.ensures.1 ∙ ap (λ (k : Junction). c.args.out.now ++ junction k) one)
