-- The tables of a network's chains, and what it means that they agree.
use Rattle.std.specs.Prelude.{◌≡◌, ℕ, ◌≤◌, Bool, true, false, ◌&&◌, List, length, Option, Some, slice_get}
use Rattle.std.specs.List.{list_any}
use Rattle.std.specs.Ordering.{eq_by_cmp}
use Rattle.locations.specs.Order.{junctions_cmp}
use Rattle.locations.specs.declared.grammar.Junction.{Junction}
use Rattle.locations.specs.Chains.{path_of, IsNormal}
use Rattle.asset_lists.specs.declared.units.AssetId.TheVariants.{Concrete}
use Rattle.asset_lists.specs.Units.{Unit}
use Rattle.asset_lists.specs.Listed.{kind_of, same_kind}
use Rattle.chain_ids.specs.declared.chain.ChainId.{ChainId}
use Rattle.trust_tables.specs.declared.chains.Site.{Site}
use Rattle.trust_tables.specs.declared.rows.AssetRow.{AssetRow}
use Rattle.trust_tables.specs.declared.rows.AssetRole.{AssetRole}
use Rattle.trust_tables.specs.declared.rows.AssetRole.TheVariants.{Native, Derivative}
use Rattle.trust_tables.specs.Chains.{path_of_site}
use Rattle.trust_tables.specs.Accounts.{IsChain}
use Rattle.law_coherence.specs.UniversalAssets.{UniversalAsset}

-- where a chain is and what it lists
pub record Table : Type 0 where
  pub site : Site
  pub rows : List AssetRow

abbrev pub context_of : Table → List Junction
context_of t = path_of_site t.site

-- the element is in the list
abbrev pub IsIn : {A : Type 0} → List A → A → Type 0
IsIn xs x = (i : ℕ) × (slice_get xs i ≡ Some x)

abbrev pub path_of_row : Table → AssetRow → List Junction
path_of_row t row = path_of (context_of t) row.id

abbrev pub asset_of_row : Table → AssetRow → UniversalAsset
asset_of_row t row = (path_of_row t row, row.kind)

abbrev pub is_native_role : AssetRole → Bool
is_native_role (Native partners checking) = true
is_native_role (Derivative reserve) = false

abbrev pub is_native_row : Table → UniversalAsset → AssetRow → Bool
is_native_row t a row = is_native_role row.role && (eq_by_cmp junctions_cmp (path_of_row t row) a.0 && same_kind row.kind a.1)

abbrev pub is_home : UniversalAsset → Table → Bool
is_home a t = list_any (is_native_row t a) t.rows

-- two rows, each of its chain, of one asset
pub record AreTwins (s t : Table) (x y : AssetRow) : Type 0 where
  pub there : IsIn t.rows y
  pub path : path_of_row t y ≡ path_of_row s x
  pub kind : y.kind ≡ x.kind

-- the partner lists the asset as native, with this chain as partner
pub record HasPartner (n : List Table) (s : Table) (x : AssetRow) (chain : ChainId) : Type 0 where
  pub table : Table
  pub listed : IsIn n table
  pub at_chain : table.site.chain ≡ chain
  pub row : AssetRow
  pub twins : AreTwins s table x row
  pub partners : List ChainId
  pub checking : Option ℕ
  pub native : row.role ≡ Native partners checking
  pub back : IsIn partners s.site.chain

-- the reserve lists the asset as native
pub record HasReserve (n : List Table) (s : Table) (x : AssetRow) (chain : ChainId) : Type 0 where
  pub table : Table
  pub listed : IsIn n table
  pub at_chain : table.site.chain ≡ chain
  pub row : AssetRow
  pub twins : AreTwins s table x row
  pub partners : List ChainId
  pub checking : Option ℕ
  pub native : row.role ≡ Native partners checking

-- what every document that is accepted gives
pub record IsNetwork (n : List Table) : Type 0 where
  pub one_network : (s t : Table) → IsIn n s → IsIn n t → s.site.network ≡ t.site.network
  pub chains : (s : Table) → IsIn n s → IsChain s.site.chain
  pub apart : (i j : ℕ) (s t : Table) → slice_get n i ≡ Some s → slice_get n j ≡ Some t → s.site.chain ≡ t.site.chain → i ≡ j
  pub short : (s : Table) (x : AssetRow) → IsIn n s → IsIn s.rows x → length (path_of_row s x) ≤ 8

-- what coherence says of the tables alone
pub record Agrees (n : List Table) : Type 0 where
  pub network : IsNetwork n
  pub paths_apart : (s : Table) (x y : AssetRow) → IsIn n s → IsIn s.rows x → IsIn s.rows y → path_of_row s x ≡ path_of_row s y → x ≡ y
  pub normal : (s : Table) (x : AssetRow) → IsIn n s → IsIn s.rows x → IsNormal (context_of s) x.id
  pub partners : (s : Table) (x : AssetRow) (partners : List ChainId) (checking : Option ℕ) (chain : ChainId) → IsIn n s → IsIn s.rows x → x.role ≡ Native partners checking → IsIn partners chain → HasPartner n s x chain
  pub reserves : (s : Table) (x : AssetRow) (chain : ChainId) → IsIn n s → IsIn s.rows x → x.role ≡ Derivative chain → HasReserve n s x chain

-- the unit is of the row
pub record IsUnitOf (u : Unit) (row : AssetRow) : Type 0 where
  pub id : u.0 ≡ Concrete row.id
  pub kind : kind_of u.1 ≡ row.kind

-- the unit is of a row that has a twin at the other chain
pub record HasTwin (s t : Table) (u : Unit) : Type 0 where
  pub row : AssetRow
  pub listed : IsIn s.rows row
  pub unit : IsUnitOf u row
  pub twin : AssetRow
  pub twins : AreTwins s t row twin
