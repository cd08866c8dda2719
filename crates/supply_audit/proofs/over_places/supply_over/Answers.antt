use Rattle.std.proofs.Common.{List, get_or, map, subst, sym, arith}
use Rattle.std.specs.Prelude.{sum_by}
use Rattle.std.proofs.lemmas.List.{take_all}
use Rattle.std.proofs.lemmas.Option.{get_or_from_slice_get, slice_get-get_or}
use Rattle.chain_state.specs.PartOf.{part_of}
use Rattle.supply_audit.specs.declared.place.Place.{Place}
use Rattle.supply_audit.specs.RowPlaces.{place_share}
use Rattle.supply_audit.specs.Supplies.{HasSums}
use Rattle.supply_audit.proofs.Listing.{places_more}
use Rattle.supply_audit.proofs.over_places.supply_over.Goals as goal

pub loop-place-preserved : goal.loop-place-preserved
loop-place-preserved c =
    let sum = c.sum-total.ensures in
    let places = c.args.places.now in
    let k = c.loop-place.place-index in
    let zero : Place = record { chain = 0; row = 0 } in
    record {
      right = c.stock_of.ensures.right;
      sums = places_more (map part_of c.args.chains.now) places k (get_or places k zero) c.loop-place.total c.in_ok-more.more c.sum-total.result
          c.loop-place-test.true (sym (get_or_from_slice_get places k (get_or places k zero) (get_or places k zero) (slice_get-get_or places k zero c.loop-place-test.true))) sum.home sum.flight sum.burned c.loop-place.invariant.sums c.in_ok-more.ensures.supply;
    }

pub returns-clause-supply : goal.returns-clause-supply
returns-clause-supply c =
    subst (λ (xs : List Place). HasSums c.loop-place.total (λ f. sum_by (place_share f (map part_of c.args.chains.now)) xs))
    (take_all c.loop-place.place-index c.args.places.now (omega arith)) c.loop-place.invariant.sums
