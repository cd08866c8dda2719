-- What is handed out when a trader's record is closed, as the code lists it.
use Rattle.std.specs.Prelude.{ℕ, Bool, nat_lt, if◌then◌else◌, List, [], ◌∷◌}
use Rattle.asset_lists.specs.declared.units.AssetId.{AssetId}
use Rattle.asset_lists.specs.declared.units.Fun.{Fun}
use Rattle.asset_lists.specs.declared.units.Asset.{Asset}
use Rattle.weight_trader.specs.declared.rate.Rate.{Rate}
use Rattle.weight_trader.specs.Purchases.{Line}

-- so much of a rate's asset
abbrev pub coins : Rate → ℕ → Asset
coins rate n = record { id = AssetId.Concrete rate.asset; fun = Fun.Fungible n }

abbrev pub is_paid : Line → Bool
is_paid line = nat_lt 0 line.paid

-- what is paid at each line at which something is
abbrev pub paid_assets : List Line → List Asset
paid_assets [] = []
paid_assets (line ∷ lines) = if is_paid line then coins line.rate line.paid ∷ paid_assets lines else paid_assets lines
