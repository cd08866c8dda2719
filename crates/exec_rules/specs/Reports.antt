-- What the four instructions that report tell another chain. Source: the XCM format's `Response`. That an asset which the destination can't
-- name is left out, and the order of the refusals, are this project's own rule.
use Rattle.std.specs.Prelude.{ℕ, nat_le, is_some, if◌then◌else◌, length, List, [], ◌∷◌, Option, Some, None}
use Rattle.std.specs.List.{filter}
use Rattle.std.specs.Str.{bytes_eq}
use Rattle.locations.specs.declared.grammar.Junction.{Junction}
use Rattle.locations.specs.declared.relative.Location.{Location}
use Rattle.operands.specs.declared.error.XcmError.{XcmError}
use Rattle.operands.specs.declared.error.XcmError.TheVariants as error
use Rattle.operands.specs.declared.pallet.PalletInfo.{PalletInfo}
use Rattle.operands.specs.declared.query.QueryInfo.{QueryInfo}
use Rattle.operands.specs.declared.query.Response.{Response}
use Rattle.operands.specs.declared.query.Response.TheVariants as response
use Rattle.asset_lists.specs.declared.units.Asset.{Asset}
use Rattle.asset_lists.specs.declared.filters.Filter.{Filter}
use Rattle.asset_lists.specs.Lists.{is_rising, in_order}
use Rattle.asset_lists.specs.Moves.{moved, list_if}
use Rattle.asset_bundles.specs.Bundles.{held_assets}
use Rattle.trust_tables.specs.Chains.{path_of_site}
use Rattle.exec_base.specs.Part.{ChainPart}
use Rattle.exec_base.specs.Sending.{unless, channel_to_location}
use Rattle.exec_base.specs.Host.{querier_seen, respond_refusal, responded}
use Rattle.exec_rules.specs.Machine.{Machine, machine}
use Rattle.exec_rules.specs.Holdings.{taken_of}

-- a response is sent to where the query's info says, for the origin register
abbrev pub report_refused : Machine → QueryInfo → Response → Option XcmError
report_refused m info answer = respond_refusal m.part info answer m.regs.origin

abbrev pub report_done : Machine → QueryInfo → Response → Machine
report_done m info answer = machine m.regs (responded m.part info answer m.regs.origin)

-- ---- pallets

-- those with that module name, in listed order
abbrev pub pallets_of : ChainPart → List ℕ → List PalletInfo
pallets_of p name = filter (λ (info : PalletInfo). bytes_eq info.module_name name) p.pallets

-- ---- the holding

abbrev pub with_named : Option Asset → List Asset → List Asset
with_named None others = others
with_named (Some a) others = a ∷ others

-- the assets that the target can name, as it names them
abbrev pub named_assets : Location → List Junction → List Asset → List Asset
named_assets target context [] = []
named_assets target context (a ∷ rest) = with_named (moved target context a) (named_assets target context rest)

-- the same as a list, in its order; none where two of them become the same
abbrev pub named_list : Location → List Junction → List Asset → Option (List Asset)
named_list target context xs = list_if (is_rising (in_order (named_assets target context xs))) (in_order (named_assets target context xs))

-- what a filter would take of the holding, as the destination names it
abbrev pub reported_list : Machine → QueryInfo → Filter → Option (List Asset)
reported_list m info wanted = named_list info.destination (path_of_site m.part.site) (held_assets (taken_of m wanted))

-- more assets than a list has are in no message: the querier, the channel and the size are asked in this order
abbrev pub too_many_refused : Machine → QueryInfo → Option XcmError
too_many_refused m info =
    unless (is_some (querier_seen m.part info.destination m.regs.origin)) error.ReanchorFailed
    (unless (is_some (channel_to_location m.part info.destination)) error.Unroutable (Some error.ExceedsMaxMessageSize))

abbrev pub holding_report_refused : Machine → QueryInfo → Option (List Asset) → Option XcmError
holding_report_refused m info None = Some error.ReanchorFailed
holding_report_refused m info (Some list) = if nat_le (length list) 20 then report_refused m info (response.Assets list) else too_many_refused m info

abbrev pub holding_report_done : Machine → QueryInfo → Option (List Asset) → Machine
holding_report_done m info None = m
holding_report_done m info (Some list) = report_done m info (response.Assets list)
