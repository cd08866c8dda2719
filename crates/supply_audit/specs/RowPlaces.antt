-- The positions of an asset's rows in the lists of a network's chains, and what they count for. Chains and rows are numbered from 0. This
-- project's own rule.
--
--   chain_places    the positions of a chain's rows that are of the asset, in listed order
--   home_places     those of the chains where the asset is at home, chain by chain
--   over_places     what the rows at positions count for together
use Rattle.std.specs.Prelude.{ℕ, Bool, ◌&&◌, if◌then◌else◌, List, [], ◌∷◌, Option, None, Some, option_map, slice_get, sum_by, flat_map, unwrap_or}
use Rattle.std.specs.List.{enumerate_from}
use Rattle.std.specs.Map.{lookup}
use Rattle.std.specs.Ordering.{eq_by_cmp}
use Rattle.std.specs.declared.alloc.Global.{Global}
use Rattle.std.specs.declared.vec.Vec.{Vec}
use Rattle.locations.specs.Order.{junctions_cmp}
use Rattle.asset_lists.specs.declared.units.AssetId.{AssetId}
use Rattle.asset_lists.specs.declared.units.AssetId.TheVariants.{Concrete}
use Rattle.asset_lists.specs.declared.units.Kind.{Kind}
use Rattle.asset_lists.specs.Listed.{same_kind}
use Rattle.trust_tables.specs.declared.rows.AssetRow.{AssetRow}
use Rattle.law_coherence.specs.UniversalAssets.{UniversalAsset}
use Rattle.law_coherence.specs.Networks.{Table, path_of_row, is_home}
use Rattle.exec_base.specs.Part.{ChainPart}
use Rattle.supply_audit.specs.declared.figures.Carried.TheVariants.{Teleports}
use Rattle.supply_audit.specs.declared.figures.Figure.{Figure}
use Rattle.supply_audit.specs.declared.figures.Figure.TheVariants.{Placed, Burned, Sent}
use Rattle.supply_audit.specs.declared.place.Place.{Place}
use Rattle.supply_audit.specs.Assets.{universal_asset_cmp}
use Rattle.supply_audit.specs.Places.{figure}

-- the row is of the asset
abbrev pub is_table_row_of : Table → UniversalAsset → AssetRow → Bool
is_table_row_of t a row = eq_by_cmp junctions_cmp (path_of_row t row) a.0 && same_kind row.kind a.1

-- the position of a chain's row with its number, where it counts and the row is of the asset
abbrev pub place_if : Bool → Table → UniversalAsset → ℕ → ℕ × AssetRow → List Place
place_if counts t a chain row =
    if counts && is_table_row_of t a row.1 then record { chain = chain; row = row.0 } ∷ [] else []

-- of a chain with its number, where it counts
abbrev pub chain_places : Bool → UniversalAsset → ℕ × Table → List Place
chain_places counts a chain =
    flat_map (place_if counts chain.1 a chain.0) (enumerate_from 0 chain.1.rows)

-- of a chain with its number, where the asset is at home there
abbrev pub places_at_home : UniversalAsset → ℕ × Table → List Place
places_at_home a chain = chain_places (is_home a chain.1) a chain

abbrev pub home_places : UniversalAsset → List Table → List Place
home_places a tables = flat_map (places_at_home a) (enumerate_from 0 tables)

-- the positions of an asset by a table of them
abbrev pub places_in : List (UniversalAsset × Vec Place Global) → UniversalAsset → List Place
places_in entries a =
    unwrap_or (option_map (λ (list : Vec Place Global). list.items)
    (lookup (eq_by_cmp universal_asset_cmp a) entries)) []

-- ---- figures

-- a figure of a row, under its id and kind; 0 where there is none
abbrev pub figure_of_row : (AssetId → Kind → ℕ) → Option AssetRow → ℕ
figure_of_row has None = 0
figure_of_row has (Some row) = has (Concrete row.id) row.kind

abbrev pub share_in : Figure → ℕ → Option ChainPart → ℕ
share_in f row None = 0
share_in f row (Some p) = figure_of_row (figure f p) (slice_get p.rows row)

abbrev pub place_share : Figure → List ChainPart → Place → ℕ
place_share f parts place = share_in f place.row (slice_get parts place.chain)

abbrev pub over_places : Figure → List ChainPart → List Place → ℕ
over_places f parts places = sum_by (place_share f parts) places

-- what is at positions, what is on its way as teleports that were sent from there, and what was burned there
abbrev pub placed_over : List ChainPart → List Place → ℕ
placed_over parts places = over_places Placed parts places

abbrev pub flight_over : List ChainPart → List Place → ℕ
flight_over parts places = over_places (Sent Teleports None) parts places

abbrev pub burned_over : List ChainPart → List Place → ℕ
burned_over parts places = over_places Burned parts places
