-- What a network has of an asset over all its homes, and what covers a derivative. A home is a chain that lists the asset as native. This
-- project's own rule.
use Rattle.std.specs.Prelude.{ℕ, ◌+◌, if◌then◌else◌, List, Option, Some, None, find, slice_get, sum_by}
use Rattle.chain_ids.specs.declared.chain.ChainId.{ChainId}
use Rattle.chain_ids.specs.Chains.{same_chain}
use Rattle.trust_tables.specs.declared.rows.AssetRow.{AssetRow}
use Rattle.trust_tables.specs.declared.rows.AssetRole.{AssetRole}
use Rattle.trust_tables.specs.declared.rows.AssetRole.TheVariants.{Native, Derivative}
use Rattle.trust_tables.specs.Accounts.{sovereign_account}
use Rattle.law_coherence.specs.UniversalAssets.{UniversalAsset}
use Rattle.law_coherence.specs.Networks.{asset_of_row, is_home}
use Rattle.exec_base.specs.Part.{ChainPart}
use Rattle.supply_audit.specs.declared.figures.Figure.{Figure}
use Rattle.supply_audit.specs.Places.{chain_table, over_rows, figure, placed_at, burned_at, account_balance, teleports_at, deposits_to, withdrawals_to}

-- ---- supply

-- a figure of one chain, where the chain is a home
abbrev pub if_home : (ChainPart → ℕ) → UniversalAsset → ChainPart → ℕ
if_home has a p = if is_home a (chain_table p) then has p else 0

-- what is at homes
abbrev pub supply_at_homes : UniversalAsset → List ChainPart → ℕ
supply_at_homes a parts = sum_by (if_home (placed_at a) a) parts

-- what is on its way as teleports that homes sent
abbrev pub teleports_in_flight : UniversalAsset → List ChainPart → ℕ
teleports_in_flight a parts = sum_by (if_home (teleports_at a) a) parts

-- what was burned at homes
abbrev pub burned_at_homes : UniversalAsset → List ChainPart → ℕ
burned_at_homes a parts = sum_by (if_home (burned_at a) a) parts

-- the same by the figure's name
abbrev pub at_homes : Figure → UniversalAsset → List ChainPart → ℕ
at_homes f a parts = sum_by (if_home (λ p. over_rows p a (figure f p)) a) parts

-- ---- backing

-- a derivative: its chain, its reserve and its row
pub record Debt : Type 0 where
  pub here : ChainPart
  pub there : ChainPart
  pub row : AssetRow

-- the chain of this name
abbrev pub chain_at : List ChainPart → ChainId → Option ChainPart
chain_at parts chain = find (λ (p : ChainPart). same_chain p.site.chain chain) parts

abbrev pub debt_between : ChainPart → AssetRow → Option ChainPart → Option Debt
debt_between here row None = None
debt_between here row (Some there) = Some (record { here = here; there = there; row = row })

abbrev pub debt_by : List ChainPart → ChainPart → AssetRow → AssetRole → Option Debt
debt_by parts here row (Native partners checking) = None
debt_by parts here row (Derivative reserve) = debt_between here row (chain_at parts reserve)

abbrev pub debt_of_row : List ChainPart → ChainPart → Option AssetRow → Option Debt
debt_of_row parts here None = None
debt_of_row parts here (Some row) = debt_by parts here row row.role

abbrev pub debt_of_chain : List ChainPart → ℕ → Option ChainPart → Option Debt
debt_of_chain parts row None = None
debt_of_chain parts row (Some here) = debt_of_row parts here (slice_get here.rows row)

-- the derivative in a chain's row; None where the chain, the row or its reserve isn't there, or the row is native
abbrev pub debt_at : List ChainPart → ChainId → ℕ → Option Debt
debt_at parts chain row = debt_of_chain parts row (chain_at parts chain)

abbrev pub debt_asset : Debt → UniversalAsset
debt_asset d = asset_of_row (chain_table d.here) d.row

-- what the chain's account at the reserve has
abbrev pub held_at_reserve : Debt → ℕ
held_at_reserve d =
    account_balance (sovereign_account d.there.site.chain d.here.site.chain) (debt_asset d) d.there

-- what the chain has, what is on its way to it as deposits, and what is on its way back as withdrawals
abbrev pub owed_by : Debt → ℕ
owed_by d =
    placed_at (debt_asset d) d.here + deposits_to d.here.site.chain (debt_asset d) d.there
    + withdrawals_to d.there.site.chain (debt_asset d) d.here

-- a figure of a derivative; 0 where there is none
abbrev pub of_debt : (Debt → ℕ) → Option Debt → ℕ
of_debt has None = 0
of_debt has (Some d) = has d
