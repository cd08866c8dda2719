-- What a chain is that is opened here, and what must hold of its rows. This project's own.
use Rattle.std.specs.Prelude.{ℕ, Bool, false, List, [], map, replicate, is_none}
use Rattle.std.specs.List.{list_all}
use Rattle.amounts.specs.Amounts.{empty}
use Rattle.asset_lists.specs.declared.units.Asset.{Asset}
use Rattle.operands.specs.declared.query.OpenQuery.{OpenQuery}
use Rattle.trust_tables.specs.declared.chains.Site.{Site}
use Rattle.trust_tables.specs.declared.rows.AssetRow.{AssetRow}
use Rattle.exec_base.specs.declared.settings.Settings.{Settings}
use Rattle.exec_base.specs.Part.{ChainPart}
use Rattle.network_spec.specs.declared.chain.Balance.{Balance}
use Rattle.network_steps.specs.Tests.{row_checking}
use Rattle.network_steps.specs.Genesis.{fresh, with_balances}

-- no row has a checking account
abbrev pub have_no_checkings : List AssetRow → Bool
have_no_checkings rows = list_all (λ (row : AssetRow). is_none (row_checking row)) rows

-- an account, and an asset that it has
abbrev pub balance_of : List ℕ × Asset → Balance
balance_of holding = record { who = holding.0; asset = holding.1 }

-- no pallets, an account for fees whose 32 bytes are 0, no calls, no locks and no pools
abbrev pub plain_settings : Site → List AssetRow → Settings
plain_settings site rows = record { site = site; rows = rows; pallets = []; fee_account = replicate 32 0; calls = false; locks = false; pools = [] }

-- no rates and no channels; nothing happened, and accounts hold just these
abbrev pub opened_part : Site → List AssetRow → List (List ℕ × Asset) → List OpenQuery → ChainPart
opened_part site rows accounts queries = record (fresh (plain_settings site rows) [] queries []) { held = with_balances empty (map balance_of accounts) }
