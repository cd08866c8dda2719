-- Which row of a chain's table an asset has, and which chains are believed about it. This is the project's own rule,
-- after the reserve and teleport filters of xcm-executor's configuration.
use Rattle.std.specs.Prelude.{◌≡◌, Bool, false, ◌&&◌, List, [], ◌∷◌, Option, Some, None, find, Any, IsSomeAnd}
use Rattle.std.specs.List.{list_any}
use Rattle.std.specs.Ordering.{eq_by_cmp}
use Rattle.locations.specs.declared.relative.Location.{Location}
use Rattle.locations.specs.Order.{location_cmp}
use Rattle.asset_lists.specs.declared.units.Asset.{Asset}
use Rattle.asset_lists.specs.declared.units.AssetId.{AssetId}
use Rattle.asset_lists.specs.declared.units.AssetId.TheVariants.{Concrete, Abstract}
use Rattle.asset_lists.specs.Units.{unit_of}
use Rattle.asset_lists.specs.Listed.{kind_of, same_kind, Listed}
use Rattle.chain_ids.specs.declared.chain.ChainId.{ChainId}
use Rattle.trust_tables.specs.declared.chains.Site.{Site}
use Rattle.trust_tables.specs.declared.rows.AssetRow.{AssetRow}
use Rattle.trust_tables.specs.declared.rows.AssetRole.{AssetRole}
use Rattle.trust_tables.specs.declared.rows.AssetRole.TheVariants.{Native, Derivative}
use Rattle.trust_tables.specs.Chains.{location_of}

-- whether an asset id is this location
abbrev pub is_id : AssetId → Location → Bool
is_id (Concrete l) id = eq_by_cmp location_cmp l id
is_id (Abstract name) id = false

-- whether the row is of the asset: the same id, and the kind fits
abbrev pub is_row_of : Asset → AssetRow → Bool
is_row_of a row = is_id a.id row.id && same_kind (kind_of (unit_of a).1) row.kind

-- the assets that a table lists, row by row
abbrev pub listed_row : AssetRow → Listed
listed_row row = (Concrete row.id, row.kind)

abbrev pub listing : List AssetRow → List Listed
listing [] = []
listing (row ∷ rows) = listed_row row ∷ listing rows

-- the first row of the asset
abbrev pub row_of : List AssetRow → Asset → Option AssetRow
row_of rows a = find (is_row_of a) rows

-- whether a chain that may have a location has this one
abbrev pub has_location : Option Location → Location → Bool
has_location None l = false
has_location (Some named) l = eq_by_cmp location_cmp named l

-- whether the location is how the first chain names the second
abbrev pub is_location_of : ChainId → ChainId → Location → Bool
is_location_of here chain l = has_location (location_of here chain) l

-- a derivative's reserve is believed
abbrev pub is_reserve_role : ChainId → Location → AssetRole → Bool
is_reserve_role here l (Native partners checking) = false
is_reserve_role here l (Derivative reserve) = is_location_of here reserve l

-- a native asset's partners are believed
abbrev pub is_partner_role : ChainId → Location → AssetRole → Bool
is_partner_role here l (Native partners checking) = list_any (λ chain. is_location_of here chain l) partners
is_partner_role here l (Derivative reserve) = false

abbrev pub holds_of : (AssetRole → Bool) → Option AssetRow → Bool
holds_of test None = false
holds_of test (Some row) = test row.role

-- whether the location is the asset's reserve
abbrev pub is_reserve : List AssetRow → Site → Asset → Location → Bool
is_reserve rows site a l = holds_of (is_reserve_role site.chain l) (row_of rows a)

-- whether the asset may be teleported to and from the location
abbrev pub is_partner : List AssetRow → Site → Asset → Location → Bool
is_partner rows site a l = holds_of (is_partner_role site.chain l) (row_of rows a)

-- the same in words: the row lists the asset
abbrev pub IsRowOf : Asset → AssetRow → Type 0
IsRowOf a row = (a.id ≡ Concrete row.id) × (kind_of (unit_of a).1 ≡ row.kind)

-- the location is that of the reserve
abbrev pub IsReserveRole : ChainId → Location → AssetRole → Type 0
IsReserveRole here l (Native partners checking) = ⊥
IsReserveRole here l (Derivative reserve) = location_of here reserve ≡ Some l

-- the location is that of a partner
abbrev pub IsPartnerRole : ChainId → Location → AssetRole → Type 0
IsPartnerRole here l (Native partners checking) = Any (λ chain. location_of here chain ≡ Some l) partners
IsPartnerRole here l (Derivative reserve) = ⊥

abbrev pub IsReserve : List AssetRow → Site → Asset → Location → Type 0
IsReserve rows site a l = IsSomeAnd (row_of rows a) (λ row. IsReserveRole site.chain l row.role)

abbrev pub IsPartner : List AssetRow → Site → Asset → Location → Type 0
IsPartner rows site a l = IsSomeAnd (row_of rows a) (λ row. IsPartnerRole site.chain l row.role)
