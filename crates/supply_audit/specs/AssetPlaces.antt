-- The positions of each asset's rows at all chains of a network: a chain's number and a row's index, both from 0. This project's own rule.
use Rattle.std.specs.Prelude.{◌≡◌, ℕ, nat_eq, Bool, true, List, flat_map}
use Rattle.std.specs.List.{enumerate_from, filter}
use Rattle.std.specs.declared.alloc.Global.{Global}
use Rattle.std.specs.declared.vec.Vec.{Vec}
use Rattle.law_coherence.specs.UniversalAssets.{UniversalAsset}
use Rattle.law_coherence.specs.Networks.{Table}
use Rattle.supply_audit.specs.declared.place.Place.{Place}
use Rattle.supply_audit.specs.RowPlaces.{chain_places, places_in}

-- chain by chain
abbrev pub all_places : UniversalAsset → List Table → List Place
all_places a tables = flat_map (chain_places true a) (enumerate_from 0 tables)

-- the position is at the chain of this number
abbrev pub is_at : ℕ → Place → Bool
is_at chain place = nat_eq place.chain chain

-- the entries have for each asset its positions
abbrev pub ArePlaces : List (UniversalAsset × Vec Place Global) → List Table → Type 0
ArePlaces entries tables = (a : UniversalAsset) → places_in entries a ≡ all_places a tables

-- those at the chain of this number are the chain's own
abbrev pub HavePlacesOf : List (UniversalAsset × Vec Place Global) → ℕ × Table → Type 0
HavePlacesOf entries chain =
    (a : UniversalAsset) → filter (is_at chain.0) (places_in entries a) ≡ chain_places true a chain
