-- Tests of what a network document says of a chain. Source: this project's own rules; that a location has at most 8 junctions is the
-- XCM format's.
use Rattle.std.specs.Prelude.{ℕ, ◌^◌, ◌&&◌, nat_le, nat_lt, Bool, true, false, List, length, Option, Some, None}
use Rattle.std.specs.List.{list_all, list_any}
use Rattle.chain_ids.specs.Chains.{same_chain}
use Rattle.locations.specs.declared.grammar.Junction.{Junction}
use Rattle.locations.specs.Chains.{path_of}
use Rattle.asset_lists.specs.declared.units.Asset.{Asset}
use Rattle.asset_lists.specs.declared.units.Kind.{Kind}
use Rattle.asset_lists.specs.declared.units.Kind.TheVariants.{Fungible, Class}
use Rattle.asset_lists.specs.Units.{amount_of}
use Rattle.asset_lists.specs.Listed.{Listed, listed_of, lists}
use Rattle.trust_tables.specs.declared.rows.AssetRole.{AssetRole}
use Rattle.trust_tables.specs.declared.rows.AssetRole.TheVariants.{Native, Derivative}
use Rattle.trust_tables.specs.declared.rows.AssetRow.{AssetRow}
use Rattle.trust_tables.specs.Trust.{is_row_of}
use Rattle.weight_trader.specs.Purchases.{Line, coin_of}
use Rattle.channel_parts.specs.Channels.{Outgoing}
use Rattle.exec_base.specs.Host.{is_price}
pub use Rattle.network_spec.specs.Networks.{comes_before, rises, is_in_order, has_chain, same_fun, same_holding}
use Rattle.network_spec.specs.declared.chain.Balance.{Balance}
use Rattle.network_spec.specs.declared.network.ChannelSpec.{ChannelSpec}

-- ---- rows

-- the row's id has a path of at most 8 junctions
abbrev pub has_path : List Junction → AssetRow → Bool
has_path context row = nat_le row.id.parents (length context) && nat_le (length (path_of context row.id)) 8

abbrev pub have_paths : List Junction → List AssetRow → Bool
have_paths context rows = list_all (has_path context) rows

-- the checking account of a role, if it has one
abbrev pub role_checking : AssetRole → Option ℕ
role_checking (Native partners checking) = checking
role_checking (Derivative reserve) = None

abbrev pub row_checking : AssetRow → Option ℕ
row_checking row = role_checking row.role

-- only an asset that has amounts has a checking account
abbrev pub may_check : Kind → Option ℕ → Bool
may_check Fungible checking = true
may_check Class None = true
may_check Class (Some amount) = false

abbrev pub may_have_checkings : List AssetRow → Bool
may_have_checkings rows = list_all (λ (row : AssetRow). may_check row.kind (row_checking row)) rows

-- ---- rates

-- what the rate is paid in is listed
abbrev pub is_rate_listed : List Listed → Line → Bool
is_rate_listed listed line = lists listed (listed_of (coin_of line.rate))

abbrev pub are_rates_listed : List Listed → List Line → Bool
are_rates_listed listed lines = list_all (is_rate_listed listed) lines

-- ---- balances

-- more than any amount of a document
abbrev pub past_amounts : ℕ
past_amounts = 2 ^ 127

-- a checking account, where there is one, begins below 2^127
abbrev pub is_low : Option ℕ → Bool
is_low None = true
is_low (Some amount) = nat_lt amount past_amounts

abbrev pub have_low_checkings : List AssetRow → Bool
have_low_checkings rows = list_all (λ (row : AssetRow). is_low (row_checking row)) rows

-- a listed asset, of an amount above 0
abbrev pub is_placeable : List AssetRow → Balance → Bool
is_placeable rows b = list_any (is_row_of b.asset) rows && nat_lt 0 (amount_of b.asset)

-- and of one below 2^127
abbrev pub is_balance : List AssetRow → Balance → Bool
is_balance rows b = list_any (is_row_of b.asset) rows && (nat_lt 0 (amount_of b.asset) && nat_lt (amount_of b.asset) past_amounts)

-- ---- channels

-- a fee, where there is one, is an amount above 0 of a fungible asset
abbrev pub fee_is_price : Option Asset → Bool
fee_is_price None = true
fee_is_price (Some fee) = is_price fee.fun

abbrev pub has_price : Outgoing → Bool
has_price c = fee_is_price c.channel.fee

abbrev pub have_prices : List Outgoing → Bool
have_prices channels = list_all has_price channels

-- the chain lists what the channel's fee is paid in
abbrev pub lists_fee : List AssetRow → Option Asset → Bool
lists_fee rows None = true
lists_fee rows (Some fee) = list_any (is_row_of fee) rows

abbrev pub same_link : ChannelSpec → ChannelSpec → Bool
same_link a b = same_chain a.from b.from && same_chain a.channel.to b.channel.to
