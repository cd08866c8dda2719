-- What a backing says of a derivative, where there is one. This project's own rule.
use Rattle.std.specs.Prelude.{◌≡◌, min, Option}
use Rattle.asset_bundles.specs.Books.{most_burned}
use Rattle.asset_bundles.specs.Totals.{total_value}
use Rattle.ledgers.specs.declared.supplies.Backing.{Backing}
use Rattle.supply_audit.specs.Supply.{Debt, held_at_reserve, owed_by, of_debt}

-- each total saturates
pub record CoversBy (backing : Backing) (debt : Option Debt) : Type 0 where
  pub held : total_value backing.held ≡ min (of_debt held_at_reserve debt) most_burned
  pub owed : total_value backing.owed ≡ min (of_debt owed_by debt) most_burned
