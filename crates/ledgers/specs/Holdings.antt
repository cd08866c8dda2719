-- What all accounts hold, as one list. This project's own rule.
use Rattle.std.specs.Prelude.{ℕ, List, map}
use Rattle.amounts.specs.Amounts.{rows}
use Rattle.asset_lists.specs.declared.units.Asset.{Asset}
use Rattle.asset_bundles.specs.Bundles.{fun_of}
use Rattle.ledgers.specs.Ledgers.{Holder, Held}

-- what an account holds of a unit, as an asset
abbrev pub asset_held : Holder × ℕ → Asset
asset_held row = record { id = row.0.1.0; fun = fun_of row.0.1.1 row.1 }

-- the account, and that asset
abbrev pub holding_at : Holder × ℕ → List ℕ × Asset
holding_at row = (row.0.0, asset_held row)

-- by account, and then in holding order: the order of the rows of what all accounts hold
unfoldable pub all_holdings : Held → List (List ℕ × Asset)
all_holdings held = map holding_at (rows held)
