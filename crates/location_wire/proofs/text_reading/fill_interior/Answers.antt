use Rattle.std.proofs.Common.{◌∷◌, [], ◌++◌, List, take, refl, ap, ◌∙◌, length-append, arith}
use Rattle.locations.specs.declared.grammar.Junction.{Junction}
use Rattle.location_wire.proofs.TextLaws.{picked, read_as, one_more}
use Rattle.location_wire.proofs.text_reading.fill_interior.Goals as goal

pub returns-in_default-clause-found : goal.returns-in_default-clause-found
returns-in_default-clause-found c = λ js few all e.
    let p = picked c.args.parts.now js c.loop-part.part-index (record { ref_ptr = (0, 0); now = [] }) c.loop-part-test.true e all in
    absurd (cc (c.in_ok-junction.ensures.found p.0 p.1 p.2, c.in_default.is))

pub loop-part-preserved : goal.loop-part-preserved
loop-part-preserved c = record {
  few = rw c.in-Ok.ensures.ok (omega (arith, length-append c.loop-part.junctions (c.in-Some.junction ∷ []), c.in-Ok.ensures.room.0 refl));
  fits = rw c.in-Ok.ensures.ok (one_more c.loop-part.junctions c.in-Some.junction c.loop-part.invariant.fits (rw c.in-Some.is at c.in_ok-junction.ensures.fits));
  found = λ js few all e.
      let p = picked c.args.parts.now js c.loop-part.part-index _ c.loop-part-test.true e all in
      let same = read_as c.in_ok-junction.field-0 c.in-Some.junction p.0 c.in-Some.is (c.in_ok-junction.ensures.found p.0 p.1 p.2) in
      c.in-Ok.ensures.ok
      ∙ ap (λ (xs : List Junction). xs ++ c.in-Some.junction ∷ []) (c.loop-part.invariant.found js few all e)
      ∙ ap (λ (x : Junction). take c.loop-part.part-index js ++ x ∷ []) same
      ∙ p.3;
}

pub returns-clause-fits : goal.returns-clause-fits
returns-clause-fits c = λ _. (c.loop-part.invariant.few, c.loop-part.invariant.fits)
