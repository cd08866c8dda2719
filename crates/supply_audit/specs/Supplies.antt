-- What a table of all supplies says. This project's own rule.
use Rattle.std.specs.Prelude.{◌≡◌, ℕ, ◌+◌, min, List, None, unwrap_or, if◌then◌else◌, sum_by}
use Rattle.std.specs.Map.{lookup}
use Rattle.std.specs.Ordering.{eq_by_cmp}
use Rattle.asset_bundles.specs.Books.{most_burned}
use Rattle.asset_bundles.specs.Totals.{total_value}
use Rattle.asset_bundles.specs.declared.totals.Total.{Total}
use Rattle.trust_tables.specs.declared.rows.AssetRow.{AssetRow}
use Rattle.law_coherence.specs.UniversalAssets.{UniversalAsset}
use Rattle.law_coherence.specs.Networks.{is_home}
use Rattle.exec_base.specs.Part.{ChainPart}
use Rattle.supply_audit.specs.declared.figures.Carried.TheVariants.{Teleports}
use Rattle.supply_audit.specs.declared.figures.Figure.{Figure}
use Rattle.supply_audit.specs.declared.figures.Figure.TheVariants.{Placed, Burned, Sent}
use Rattle.supply_audit.specs.declared.table.Supplies.{Supplies}
use Rattle.ledgers.specs.declared.supplies.Supply.{Supply}
use Rattle.supply_audit.specs.Assets.{universal_asset_cmp}
use Rattle.supply_audit.specs.Places.{chain_table, row_share, figure}
use Rattle.supply_audit.specs.Supply.{supply_at_homes, teleports_in_flight, burned_at_homes}

-- each total saturates
pub record IsSupply (supply : Supply) (a : UniversalAsset) (parts : List ChainPart) : Type 0 where
  pub home : total_value supply.home ≡ min (supply_at_homes a parts) most_burned
  pub flight : total_value supply.flight ≡ min (teleports_in_flight a parts) most_burned
  pub burned : total_value supply.burned ≡ min (burned_at_homes a parts) most_burned

-- what a table says of an asset; there is nothing of one that it doesn't have
abbrev pub no_supply : Supply
no_supply =
    let zero : Total = record { high = 0; low = 0 } in record {
      home = zero;
      flight = zero;
      burned = zero;
    }

abbrev pub supply_in : List (UniversalAsset × Supply) → UniversalAsset → Supply
supply_in entries a = unwrap_or (lookup (eq_by_cmp universal_asset_cmp a) entries) no_supply

abbrev pub supply_by : Supplies → UniversalAsset → Supply
supply_by table a = supply_in table.sums.entries a

-- the table says of each asset what the chains have of it
abbrev pub AreSupplies : Supplies → List ChainPart → Type 0
AreSupplies table parts = (a : UniversalAsset) → IsSupply (supply_by table a) a parts

-- ---- while a table is made

-- a supply of these figures
pub record HasSums (supply : Supply) (has : Figure → ℕ) : Type 0 where
  pub home : total_value supply.home ≡ min (has Placed) most_burned
  pub flight : total_value supply.flight ≡ min (has (Sent Teleports None)) most_burned
  pub burned : total_value supply.burned ≡ min (has Burned) most_burned

-- the figures of each asset rise by so much
abbrev pub Raises : List (UniversalAsset × Supply) → List (UniversalAsset × Supply)
    → (UniversalAsset → Figure → ℕ) → Type 0
Raises old new more =
    (a : UniversalAsset) (has : Figure → ℕ) → HasSums (supply_in old a) has
    → HasSums (supply_in new a) (λ f. has f + more a f)

-- what a row of a chain counts for, and what rows count for together: nothing, where the asset isn't at home there
abbrev pub row_part : ChainPart → AssetRow → UniversalAsset → Figure → ℕ
row_part p row a f = if is_home a (chain_table p) then row_share p a (figure f p) row else 0

abbrev pub rows_part : ChainPart → List AssetRow → UniversalAsset → Figure → ℕ
rows_part p rows a f =
    if is_home a (chain_table p) then sum_by (row_share p a (figure f p)) rows else 0
