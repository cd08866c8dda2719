-- The fields that take more than one line: lists of assets, filters, queries and what answers them. What belongs to a field is one level
-- deeper. This project's own rule; the names are the XCM format's.
use Rattle.std.specs.Prelude.{ℕ, ◌+◌, List, [], ◌∷◌, ◌++◌, codes, decimal, flat_map}
use Rattle.location_wire.specs.Texts.{hex_text, location_text}
use Rattle.asset_lists.specs.declared.units.Asset.{Asset}
use Rattle.asset_lists.specs.declared.filters.Wild.{Wild}
use Rattle.asset_lists.specs.declared.filters.Wild.TheVariants.{All, AllOf, AllCounted, AllOfCounted}
use Rattle.asset_lists.specs.declared.filters.Filter.{Filter}
use Rattle.asset_lists.specs.declared.filters.Filter.TheVariants as filters
use Rattle.operands.specs.Texts.{weight_text}
use Rattle.operands.specs.declared.pallet.PalletInfo.{PalletInfo}
use Rattle.operands.specs.declared.query.QueryInfo.{QueryInfo}
use Rattle.operands.specs.declared.query.Response.{Response}
use Rattle.operands.specs.declared.query.Response.TheVariants.{Null, Assets, ExecutionResult, Version, PalletsInfo, DispatchResult}
use Rattle.message_text.specs.declared.names.FieldName.{FieldName}
use Rattle.message_text.specs.declared.names.FieldName.TheVariants as names
use Rattle.message_text.specs.Names.{name_text}
use Rattle.message_text.specs.Lines.{line, field}
use Rattle.message_text.specs.Words.{asset_text, id_text, wild_fun_text, failure_text, status_text}

-- ---- assets

-- a line for each
abbrev pub asset_lines : ℕ → List Asset → List ℕ
asset_lines level list = flat_map (λ a. line level (asset_text a)) list

-- the name, and the assets below it
unfoldable pub assets_field : ℕ → FieldName → List Asset → List ℕ
assets_field level name list = line level (name_text name) ++ asset_lines (level + 1) list

unfoldable pub wild_text : Wild → List ℕ
wild_text All = codes "All"
wild_text (AllOf id fun) = codes "AllOf " ++ (id_text id ++ (codes " " ++ wild_fun_text fun))
wild_text (AllCounted count) = codes "AllCounted " ++ decimal count
wild_text (AllOfCounted id fun count) =
    codes "AllOfCounted " ++ (id_text id ++ (codes " " ++ (wild_fun_text fun
    ++ (codes " " ++ decimal count))))

-- just these assets, or what the wildcard means
unfoldable pub filter_field : ℕ → FieldName → Filter → List ℕ
filter_field level name (filters.Definite list) = assets_field level name list
filter_field level name (filters.Wild wild) = field level name (wild_text wild)

-- ---- queries

-- where a response goes, what it answers, and what it may weigh
unfoldable pub info_field : ℕ → QueryInfo → List ℕ
info_field level info =
    line level (name_text names.Info)
    ++ (field (level + 1) names.Destination (location_text info.destination)
    ++ (field (level + 1) names.QueryId (decimal info.query_id)
    ++ field (level + 1) names.MaxWeight (weight_text info.max_weight)))

-- a pallet: its index, the hex of its name and of its module's, and the version of its crate
unfoldable pub pallet_text : PalletInfo → List ℕ
pallet_text p =
    decimal p.index ++ (codes " " ++ (hex_text p.name ++ (codes " " ++ (hex_text p.module_name
    ++ (codes " " ++ (decimal p.major ++ (codes "." ++ (decimal p.minor ++ (codes "."
    ++ decimal p.patch)))))))))

abbrev pub pallet_lines : ℕ → List PalletInfo → List ℕ
pallet_lines level list = flat_map (λ p. line level (pallet_text p)) list

unfoldable pub response_name : Response → List ℕ
response_name Null = codes "Null"
response_name (Assets _) = codes "Assets"
response_name (ExecutionResult _) = codes "ExecutionResult"
response_name (Version _) = codes "Version"
response_name (PalletsInfo _) = codes "PalletsInfo"
response_name (DispatchResult _) = codes "DispatchResult"

-- what follows the name
unfoldable pub response_value : Response → List ℕ
response_value Null = []
response_value (Assets _) = []
response_value (ExecutionResult failed) = codes " " ++ failure_text failed
response_value (Version version) = codes " " ++ decimal version
response_value (PalletsInfo _) = []
response_value (DispatchResult status) = codes " " ++ status_text status

-- what is below it
unfoldable pub response_lines : ℕ → Response → List ℕ
response_lines level Null = []
response_lines level (Assets list) = asset_lines level list
response_lines level (ExecutionResult _) = []
response_lines level (Version _) = []
response_lines level (PalletsInfo pallets) = pallet_lines level pallets
response_lines level (DispatchResult _) = []

abbrev pub response_field : ℕ → Response → List ℕ
response_field level answer =
    field level names.Response (response_name answer ++ response_value answer)
    ++ response_lines (level + 1) answer
