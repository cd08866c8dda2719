-- The assets of the ledger of these tests: that of the chain itself, and that of the chain above it.
use Rattle.std.specs.Prelude.{ℕ, List, [], ◌∷◌}
use Rattle.locations.specs.declared.relative.Location.{Location}
use Rattle.asset_lists.specs.declared.units.Kind.{Kind}
use Rattle.asset_lists.specs.declared.units.AssetId.TheVariants.{Concrete}
use Rattle.asset_lists.specs.Listed.{Listed}

-- the location so many levels above the chain
abbrev pub ancestor_location : ℕ → Location
ancestor_location parents = record { parents = parents; interior = [] }

abbrev pub fixture_coins : List Listed
fixture_coins = (Concrete (ancestor_location 0), Kind.Fungible) ∷ (Concrete (ancestor_location 1), Kind.Fungible) ∷ []
