use Rattle.std.proofs.Common.{◌≡◌, ◌∙◌, ◌++◌, refl, ap}
use Rattle.location_wire.specs.Spelling.{location}
use Rattle.locations.specs.declared.relative.Location.{Location}
use Rattle.tree_reading.proofs.Paths.{is_location}
use Rattle.tree_reading.proofs.places.put_location.Goals as goal

pub returns-in_default : goal.returns-in_default
returns-in_default c = λ l fits bytes e. absurd (cc (c.in_default.is, c.in_ok-place.ensures l (is_location l fits bytes) e))

pub returns : goal.returns
returns c = λ l fits bytes e.
    let same : c.in-Some.place ≡ l = cc (c.in-Some.is, c.in_ok-place.ensures l (is_location l fits bytes) e) in
    (refl, c.in_ok-write_location.ensures.1 ∙ ap (λ (m : Location). c.args.out.now ++ location m) same)
