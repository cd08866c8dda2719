-- Channels whose fees, where they have one, are in a listed asset. This project's own rule.
use Rattle.std.specs.Prelude.{Bool, true, List, Option, Some, None}
use Rattle.std.specs.List.{list_all}
use Rattle.asset_lists.specs.declared.units.Asset.{Asset}
use Rattle.asset_lists.specs.Units.{unit_of}
use Rattle.asset_lists.specs.Listed.{Listed, listed_of, lists}
use Rattle.channel_parts.specs.Channels.{Outgoing}

abbrev pub is_asset_listed : List Listed → Option Asset → Bool
is_asset_listed listed None = true
is_asset_listed listed (Some fee) = lists listed (listed_of (unit_of fee))

abbrev pub is_fee_listed : List Listed → Outgoing → Bool
is_fee_listed listed c = is_asset_listed listed c.channel.fee

abbrev pub are_fees_listed : List Listed → List Outgoing → Bool
are_fees_listed listed channels = list_all (is_fee_listed listed) channels
