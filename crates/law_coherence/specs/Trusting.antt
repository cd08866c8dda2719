-- What a chain's trust says of the row at the other chain, in a network that agrees.
use Rattle.std.specs.Prelude.{◌≡◌, ℕ, List, Option}
use Rattle.asset_lists.specs.Units.{Unit}
use Rattle.chain_ids.specs.declared.chain.ChainId.{ChainId}
use Rattle.trust_tables.specs.declared.rows.AssetRole.TheVariants.{Native}
use Rattle.law_coherence.specs.Networks.{Table, IsIn, HasTwin}

-- ---- trust at one chain, and the row at the other
-- the asset's row is native with the other chain as partner, and so it is there
pub record IsShared (s t : Table) (u : Unit) : Type 0 where
  pub twin : HasTwin s t u
  pub here : (partners : List ChainId) × (checking : Option ℕ) × (twin.row.role ≡ Native partners checking) × IsIn partners t.site.chain
  pub there : (partners : List ChainId) × (checking : Option ℕ) × (twin.twin.role ≡ Native partners checking) × IsIn partners s.site.chain
