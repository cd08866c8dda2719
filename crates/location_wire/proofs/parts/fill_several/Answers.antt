use Rattle.std.proofs.Common.{◌≡◌, [], ◌∷◌, ◌++◌, length, length-append, slice_set, arith}
use Rattle.std.specs.List.{refill}
use Rattle.std.proofs.lemmas.Result.{err_from_is_err_and}
use Rattle.scale_codec.proofs.Lemmas.Loops.{goes_on, fails, ends}
use Rattle.locations.specs.declared.grammar.Junction.TheVariants.{Parachain}
use Rattle.location_wire.specs.Reading.{junction_at}
use Rattle.location_wire.proofs.Places.{written_last}
use Rattle.location_wire.proofs.parts.fill_several.Goals as goal

pub returns-in_err-fill_junction : goal.returns-in_err-fill_junction
returns-in_err-fill_junction c =
    let p = err_from_is_err_and c.from_residual.result c.from_residual.ensures.1 in
    rw p.1 (fails junction_at c.loop-i.junctions c.args.count c.loop-i.i c.loop-i.c _ c.loop-i-test.true c.in_err-fill_junction.ensures c.loop-i.invariant.read)

pub returns : goal.returns
returns c = ends junction_at c.loop-i.junctions c.args.count c.loop-i.i c.loop-i.c _ c.loop-i-test.false c.loop-i.invariant.read

pub loop-i-preserved : goal.loop-i-preserved
loop-i-preserved c =
    let pushed : c.push.new.self ≡ c.loop-i.junctions ++ Parachain 0 ∷ [] = rw c.unwrap.ensures at c.push.ensures.ok in
    let slot = c.fill_junction.new.slot in
    let written : refill (length c.push.new.self) c.push.new.self (slice_set c.places.result.now c.loop-i.i slot) ≡ c.loop-i.junctions ++ slot ∷ [] =
    rw (c.places.ensures.value, pushed, ← c.loop-i.invariant.number)
    (written_last c.loop-i.junctions (Parachain 0) slot) in
    record {
      read = rw written (goes_on junction_at c.loop-i.junctions c.args.count c.loop-i.i c.loop-i.c _ slot _ c.loop-i-test.true c.in_ok-fill_junction.ensures c.loop-i.invariant.read);
      number = rw written (omega (arith, length-append c.loop-i.junctions (slot ∷ []), c.loop-i.invariant.number));
    }
