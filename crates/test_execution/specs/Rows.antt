-- The assets of the rows: a fungible asset and a class, both at the chain itself.
use Rattle.std.specs.Prelude.{◌++◌, ◌≡◌, true, List, [], ◌∷◌}
use Rattle.locations.specs.declared.relative.Location.{Location}
use Rattle.asset_lists.specs.declared.units.Kind.{Kind}
use Rattle.asset_lists.specs.declared.units.AssetId.TheVariants.{Concrete}
use Rattle.asset_lists.specs.Listed.{Listed}
use Rattle.trust_tables.specs.declared.rows.AssetRow.{AssetRow}
use Rattle.transactors.specs.Checks.{rows_of_kind}
use Rattle.transactors.specs.Moves.{are_listed}

abbrev pub own_location : Location
own_location = record { parents = 0; interior = [] }

abbrev pub fixture_listing : List Listed
fixture_listing = (Concrete own_location, Kind.Fungible) ∷ (Concrete own_location, Kind.Class) ∷ []

-- a ledger with that listing has all that the two transactors handle
abbrev pub AreHandled : List AssetRow → Type 0
AreHandled rows = are_listed fixture_listing (rows_of_kind Kind.Fungible rows ++ rows_of_kind Kind.Class rows) ≡ true
