-- The supply block of a report, each line with its line feed. This project's own rule.
use Rattle.std.specs.Prelude.{ℕ, List, [], ◌++◌, codes, if◌then◌else◌, flat_map}
use Rattle.std.specs.List.{enumerate_from}
use Rattle.location_wire.specs.Texts.{path_text}
use Rattle.chain_ids.specs.Texts.{chain_text}
use Rattle.trust_tables.specs.declared.chains.Site.{Site}
use Rattle.trust_tables.specs.declared.rows.AssetRow.{AssetRow}
use Rattle.law_coherence.specs.UniversalAssets.{UniversalAsset}
use Rattle.law_coherence.specs.Networks.{is_native_role}
use Rattle.exec_base.specs.Part.{ChainPart}
use Rattle.step_text.specs.Texts.{kind_name}
use Rattle.supply_audit.specs.Supply.{supply_at_homes, teleports_in_flight, burned_at_homes, debt_at, of_debt, held_at_reserve, owed_by}
use Rattle.report_text.specs.Natives.{path_in, native_assets}
use Rattle.report_text.specs.Sums.{sum_text}

-- where an asset with homes is: at its homes, in flight, burned
unfoldable pub supply_text_of : List ChainPart → UniversalAsset → List ℕ
supply_text_of parts a =
    codes "  supply " ++ (kind_name a.1
    ++ (codes " " ++ (path_text a.0 ++ (codes " home " ++ (sum_text (supply_at_homes a parts)
    ++ (codes " flight " ++ (sum_text (teleports_in_flight a parts)
    ++ (codes " burned " ++ (sum_text (burned_at_homes a parts) ++ codes "\n")))))))))

-- what the reserve holds for the derivative in a chain's row, and what the chain owes
unfoldable pub backing_text_of : List ChainPart → Site → ℕ → AssetRow → List ℕ
backing_text_of parts site place row =
    codes "  backing " ++ (chain_text site.chain
    ++ (codes " " ++ (kind_name row.kind ++ (codes " " ++ (path_text (path_in site row)
    ++ (codes " held " ++ (sum_text (of_debt held_at_reserve (debt_at parts site.chain place))
    ++ (codes " owed " ++ (sum_text (of_debt owed_by (debt_at parts site.chain place))
    ++ codes "\n")))))))))

-- the line of a row with its index, where it is of a derivative
abbrev pub backing_if : List ChainPart → Site → ℕ × AssetRow → List ℕ
backing_if parts site row =
    if is_native_role row.1.role then [] else backing_text_of parts site row.0 row.1

-- a line for each derivative of a chain, in listed order
abbrev pub backings_of : List ChainPart → ChainPart → List ℕ
backings_of parts p = flat_map (backing_if parts p.site) (enumerate_from 0 p.rows)

-- a line for each asset that some chain lists as native, and then for each chain in order those of its derivatives
abbrev pub supply_block : List ChainPart → List ℕ
supply_block parts =
    flat_map (supply_text_of parts) (native_assets parts) ++ flat_map (backings_of parts) parts
