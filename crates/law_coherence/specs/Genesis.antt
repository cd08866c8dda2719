-- The first world of a network in which no cause is found: it is backed, no instance is at two homes, and its checking accounts cover what
-- there is elsewhere.
use Rattle.std.specs.Prelude.{◌≡◌, ℕ, ◌^◌, ◌<◌, ◌≤◌, List, [], ◌∷◌, map, Some}
use Rattle.amounts.specs.Amounts.{amount, rows, empty}
use Rattle.asset_lists.specs.declared.units.Instance.{Instance}
use Rattle.chain_ids.specs.declared.chain.ChainId.{ChainId}
use Rattle.trust_tables.specs.declared.rows.AssetRow.{AssetRow}
use Rattle.law_coherence.specs.UniversalAssets.{UniversalAsset, just}
use Rattle.law_coherence.specs.Networks.{IsIn, Agrees}
use Rattle.law_coherence.specs.Causes.{ChainEntry, amount_at, checking_in}
use Rattle.law_coherence.specs.Parts.{Channel, Part, WorldView, population, Backed}
use Rattle.law_coherence.specs.Checking.{AllChecked}
use Rattle.law_coherence.specs.Steps as steps

-- ---- a chain at genesis
abbrev pub empty_channels : List ChainId → List Channel
empty_channels [] = []
empty_channels (to ∷ rest) = record { to = to; queue = [] } ∷ empty_channels rest

abbrev pub genesis_part : (ChainEntry → List ChainId) → ChainEntry → Part
genesis_part links e = record { table = e.table; held = e.held; traps = []; fees = empty; parked = []; holding = empty; burns = empty; checking = map (λ (row : AssetRow). checking_in row.role) e.table.rows; outgoing = empty_channels (links e) }

abbrev pub first_world_view : (ChainEntry → List ChainId) → List ChainEntry → WorldView
first_world_view links [] = []
first_world_view links (e ∷ es) = genesis_part links e ∷ first_world_view links es

-- an instance comes once within a chain
abbrev pub HasInstancesOnce : ChainEntry → Type 0
HasInstancesOnce e = (a : UniversalAsset) (instance : Instance) → amount_at a (just (Some instance)) e ≤ 1

-- the checking accounts of a chain's rows are below 2^127
abbrev pub HasLowAccounts : ChainEntry → Type 0
HasLowAccounts e = (row : AssetRow) (amount : ℕ) → IsIn e.table.rows row → checking_in row.role ≡ Some amount → amount < 2 ^ 127

-- a network in which no cause is found begins backed, with its chains agreeing and its checking accounts covering what there is elsewhere
pub record IsSoundFirst (links : ChainEntry → List ChainId) (n : List ChainEntry) : Type 0 where
  pub agrees : Agrees (steps.tables_of (first_world_view links n))
  pub backed : Backed (first_world_view links n)
  pub once : (a : UniversalAsset) (instance : Instance) → population a (just (Some instance)) (first_world_view links n) ≤ 1
  pub checked : AllChecked (first_world_view links n)
