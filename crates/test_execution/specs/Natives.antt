-- The assets of the rows, and what is on the first account.
use Rattle.std.specs.Prelude.{ℕ, List, [], ◌∷◌, nat_eq, if◌then◌else◌, replicate}
use Rattle.locations.specs.declared.grammar.Junction.{Junction}
use Rattle.locations.specs.declared.relative.Location.{Location}
use Rattle.asset_lists.specs.declared.units.Kind.{Kind}
use Rattle.asset_lists.specs.declared.units.Fun.{Fun}
use Rattle.asset_lists.specs.declared.units.Asset.{Asset}
use Rattle.asset_lists.specs.declared.units.AssetId.TheVariants.{Concrete}
use Rattle.asset_lists.specs.Listed.{Listed}
use Rattle.network_spec.specs.declared.chain.Balance.{Balance}

-- the chain itself, or a general index
abbrev pub fixture_location : ℕ → Location
fixture_location n = record { parents = 0; interior = if nat_eq n 0 then [] else Junction.GeneralIndex n ∷ [] }

abbrev pub fixture_natives : List Listed
fixture_natives = (Concrete (fixture_location 0), Kind.Fungible) ∷ (Concrete (fixture_location 1), Kind.Fungible) ∷ (Concrete (fixture_location 2), Kind.Fungible) ∷ []

-- 5 of an asset
abbrev pub five_of : ℕ → Asset
five_of n = record { id = Concrete (fixture_location n); fun = Fun.Fungible 5 }

-- the first account has 5 of each
abbrev pub first_holding : ℕ → Balance
first_holding n = record { who = replicate 32 1; asset = five_of n }

abbrev pub balances : List Balance
balances = first_holding 0 ∷ first_holding 1 ∷ first_holding 2 ∷ []
