use Rattle.std.proofs.Common.{◌≡◌, ◌++◌, ℕ, flat_map, drop}
use Rattle.std.specs.List.{enumerate_from}
use Rattle.law_coherence.specs.UniversalAssets.{UniversalAsset}
use Rattle.chain_state.specs.declared.state.ChainState.{ChainState}
use Rattle.chain_state.specs.PartOf.{part_of}
use Rattle.supply_audit.specs.Places.{chain_table}
use Rattle.supply_audit.specs.RowPlaces.{places_at_home, places_in}
use Rattle.supply_audit.proofs.home_places.HomePlaces.of.Given as goal

abbrev pub invariant-loop-number : goal.invariant-loop-number
invariant-loop-number l = (a : UniversalAsset) →
    let at = λ (x : ℕ × ChainState). places_at_home a (x.0, chain_table (part_of x.1)) in
    places_in l.places.entries a ++ flat_map at (enumerate_from l.number (drop l.number l.chains)) ≡ flat_map at (enumerate_from 0 l.chains)
