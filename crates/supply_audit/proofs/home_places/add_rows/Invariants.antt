use Rattle.std.proofs.Common.{◌≡◌, ◌++◌, flat_map, drop}
use Rattle.std.specs.List.{enumerate_from}
use Rattle.law_coherence.specs.UniversalAssets.{UniversalAsset}
use Rattle.law_coherence.specs.Networks.{is_home}
use Rattle.chain_state.specs.PartOf.{part_of}
use Rattle.supply_audit.specs.Places.{chain_table}
use Rattle.supply_audit.specs.RowPlaces.{place_if, places_in}
use Rattle.supply_audit.proofs.home_places.add_rows.Given as goal

abbrev pub invariant-loop-k : goal.invariant-loop-k
invariant-loop-k l = (a : UniversalAsset) →
    let t = chain_table (part_of l.chain) in
    places_in l.places.entries a ++ flat_map (place_if (is_home a t) t a l.number) (enumerate_from l.k (drop l.k l.rows))
    ≡ places_in l.initial.places.entries a ++ flat_map (place_if (is_home a t) t a l.number) (enumerate_from 0 l.rows)
