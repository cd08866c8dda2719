-- The plan of a supply block, by what the chains of a network list, and the block by its plan. This project's own rule.
use Rattle.std.specs.Prelude.{ℕ, List, [], ◌∷◌, ◌++◌, codes, if◌then◌else◌, flat_map, map}
use Rattle.std.specs.List.{enumerate_from}
use Rattle.location_wire.specs.Texts.{path_text}
use Rattle.chain_ids.specs.Texts.{chain_text}
use Rattle.trust_tables.specs.declared.chains.Site.{Site}
use Rattle.trust_tables.specs.declared.rows.AssetRow.{AssetRow}
use Rattle.law_coherence.specs.UniversalAssets.{UniversalAsset}
use Rattle.law_coherence.specs.Networks.{Table, is_native_role}
use Rattle.exec_base.specs.Part.{ChainPart}
use Rattle.step_text.specs.Texts.{kind_name}
use Rattle.supply_audit.specs.RowPlaces.{home_places, placed_over, flight_over, burned_over}
use Rattle.supply_audit.specs.Covers.{cover_at, of_cover, held_at, owed_at}
use Rattle.report_text.specs.Natives.{path_in, native_in, put_assets}
use Rattle.report_text.specs.Sums.{sum_text}
use Rattle.report_text.specs.Planned.{PlannedSupply, PlannedBacking, Plan}

-- ---- beginnings

-- what comes before the figures of an asset
unfoldable pub supply_beginning : UniversalAsset → List ℕ
supply_beginning a =
    codes "  supply " ++ (kind_name a.1 ++ (codes " " ++ (path_text a.0 ++ codes " home ")))

-- what comes before the figures of a derivative
unfoldable pub backing_beginning : Site → AssetRow → List ℕ
backing_beginning site row =
    codes "  backing " ++ (chain_text site.chain
    ++ (codes " " ++ (kind_name row.kind
    ++ (codes " " ++ (path_text (path_in site row) ++ codes " held ")))))

-- ---- the plan

abbrev pub planned_supply : List Table → UniversalAsset → PlannedSupply
planned_supply tables a = record { beginning = supply_beginning a; places = home_places a tables }

-- the assets that some chain lists as native, each once, in order
abbrev pub natives_in : Table → List UniversalAsset
natives_in t = flat_map (native_in t.site) t.rows

abbrev pub natives_of_tables : List Table → List UniversalAsset
natives_of_tables tables = put_assets [] (flat_map natives_in tables)

abbrev pub planned_backing : List Table → Site → ℕ → AssetRow → PlannedBacking
planned_backing tables site place row =
    record { beginning = backing_beginning site row; cover = cover_at tables site.chain place }

-- of a row with its index, where it is of a derivative
abbrev pub planned_if : List Table → Site → ℕ × AssetRow → List PlannedBacking
planned_if tables site row =
    if is_native_role row.1.role then [] else planned_backing tables site row.0 row.1 ∷ []

abbrev pub planned_backings : List Table → Table → List PlannedBacking
planned_backings tables t = flat_map (planned_if tables t.site) (enumerate_from 0 t.rows)

unfoldable pub plan_of : List Table → Plan
plan_of tables =
    record {
      supplies = map (planned_supply tables) (natives_of_tables tables);
      backings = flat_map (planned_backings tables) tables;
    }

-- ---- the block

abbrev pub planned_supply_text : List ChainPart → PlannedSupply → List ℕ
planned_supply_text parts e =
    e.beginning ++ (sum_text (placed_over parts e.places)
    ++ (codes " flight " ++ (sum_text (flight_over parts e.places)
    ++ (codes " burned " ++ (sum_text (burned_over parts e.places) ++ codes "\n")))))

abbrev pub planned_backing_text : List ChainPart → PlannedBacking → List ℕ
planned_backing_text parts e =
    e.beginning ++ (sum_text (of_cover (held_at parts) e.cover)
    ++ (codes " owed " ++ (sum_text (of_cover (owed_at parts) e.cover) ++ codes "\n")))

abbrev pub planned_block : List ChainPart → Plan → List ℕ
planned_block parts plan =
    flat_map (planned_supply_text parts) plan.supplies
    ++ flat_map (planned_backing_text parts) plan.backings
