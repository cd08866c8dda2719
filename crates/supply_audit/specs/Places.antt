-- What a chain has of an asset, and what it has sent of it. An asset is a path and a kind; at a chain it is what all rows of that path and
-- kind list. Amounts are in the asset's smallest unit; for a class they are numbers of instances. This project's own rule.
--
--   placed_at       what is in accounts, in traps, and in fees and parked bundles
--   burned_at       what was burned, for all causes
--   account_balance      what one account has
--   teleports_at    what is on its way as teleports that the chain sent
--   deposits_to, withdrawals_to      what is on its way to one chain as deposits and as withdrawals that the chain sent
use Rattle.std.specs.Prelude.{ℕ, ◌+◌, nat_eq, Bool, true, not, ◌&&◌, ◌||◌, if◌then◌else◌, List, length, Option, Some, None, sum_by}
use Rattle.std.specs.Ordering.{eq_by_cmp}
use Rattle.amounts.specs.Amounts.{amount, total}
use Rattle.amounts.specs.Rows.{amount_if}
use Rattle.locations.specs.Order.{junctions_cmp}
use Rattle.asset_lists.specs.declared.units.Asset.{Asset}
use Rattle.asset_lists.specs.declared.units.AssetId.{AssetId}
use Rattle.asset_lists.specs.declared.units.AssetId.TheVariants.{Concrete}
use Rattle.asset_lists.specs.declared.units.Kind.{Kind}
use Rattle.asset_lists.specs.Units.{unit_of, amount_of}
use Rattle.asset_lists.specs.Listed.{same_kind}
use Rattle.asset_bundles.specs.declared.shipment.Way.{Way}
use Rattle.asset_bundles.specs.declared.shipment.Way.TheVariants as ways
use Rattle.asset_bundles.specs.Bundles.{Bundle, bundle_of, is_asset}
use Rattle.asset_bundles.specs.Books.{burned_by_any_cause}
use Rattle.ledgers.specs.Ledgers.{sum_of, account_sum_of}
use Rattle.asset_bundles.specs.Traps.{trapped_amount}
use Rattle.chain_ids.specs.declared.chain.ChainId.{ChainId}
use Rattle.chain_ids.specs.Chains.{same_chain}
use Rattle.trust_tables.specs.declared.rows.AssetRow.{AssetRow}
use Rattle.channel_parts.specs.declared.cargo.Cargo.{Cargo}
use Rattle.channel_parts.specs.declared.cargo.Cargo.TheVariants.{Nothing, Deposit, Away}
use Rattle.channel_parts.specs.Channels.{Waiting, Outgoing}
use Rattle.law_coherence.specs.UniversalAssets.{UniversalAsset}
use Rattle.law_coherence.specs.Networks.{Table, path_of_row}
use Rattle.exec_base.specs.Part.{ChainPart}
use Rattle.chain_state.specs.Aside.{aside}
use Rattle.supply_audit.specs.declared.figures.Carried.{Carried}
use Rattle.supply_audit.specs.declared.figures.Carried.TheVariants.{Teleports, Deposits, Withdrawals}
use Rattle.supply_audit.specs.declared.figures.Figure.{Figure}
use Rattle.supply_audit.specs.declared.figures.Figure.TheVariants.{Placed, Burned, Account, Sent}

-- what the chain lists, as coherence looks at it
abbrev pub chain_table : ChainPart → Table
chain_table p = record { site = p.site; rows = p.rows }

-- the row is of the asset
abbrev pub is_chain_row_of : ChainPart → UniversalAsset → AssetRow → Bool
is_chain_row_of p a row =
    eq_by_cmp junctions_cmp (path_of_row (chain_table p) row) a.0 && same_kind row.kind a.1

-- what the rows of the asset have together, each under its id and kind
abbrev pub row_share : ChainPart → UniversalAsset → (AssetId → Kind → ℕ) → AssetRow → ℕ
row_share p a has row = if is_chain_row_of p a row then has (Concrete row.id) row.kind else 0

abbrev pub over_rows : ChainPart → UniversalAsset → (AssetId → Kind → ℕ) → ℕ
over_rows p a has = sum_by (row_share p a has) p.rows

-- ---- on a chain

abbrev pub placed : ChainPart → AssetId → Kind → ℕ
placed p id kind = sum_of (id, kind) p.held + trapped_amount id kind p.traps.traps + aside p id kind

-- ---- messages

abbrev pub asset_amount_in : AssetId → Kind → Bundle → ℕ
asset_amount_in id kind goods = total (is_asset id kind) goods

-- what an asset of a list counts for
abbrev pub list_share : AssetId → Kind → Asset → ℕ
list_share id kind asset = amount_if (is_asset id kind (unit_of asset)) (amount_of asset)

-- what units on their way have of an asset, where they go this way
abbrev pub by_way : Way → Way → AssetId → Kind → Bundle → ℕ
by_way ways.Withdrawal ways.Withdrawal id kind units = asset_amount_in id kind units
by_way ways.Teleport ways.Teleport id kind units = asset_amount_in id kind units
by_way ways.Withdrawal ways.Teleport id kind units = 0
by_way ways.Teleport ways.Withdrawal id kind units = 0

-- what a message carries
abbrev pub carried_amount : Carried → AssetId → Kind → Cargo → ℕ
carried_amount Teleports id kind (Away shipment) = by_way ways.Teleport shipment.way id kind shipment.units
carried_amount Teleports id kind (Deposit list) = 0
carried_amount Teleports id kind Nothing = 0
carried_amount Withdrawals id kind (Away shipment) =
    by_way ways.Withdrawal shipment.way id kind shipment.units
carried_amount Withdrawals id kind (Deposit list) = 0
carried_amount Withdrawals id kind Nothing = 0
carried_amount Deposits id kind (Deposit list) = asset_amount_in id kind (bundle_of list)
carried_amount Deposits id kind (Away shipment) = 0
carried_amount Deposits id kind Nothing = 0

-- the channel leads to the chain, or anywhere where none is given
abbrev pub is_towards : Option ChainId → Outgoing → Bool
is_towards None c = true
is_towards (Some chain) c = same_chain c.channel.to chain

-- no message waits in the channel, or it doesn't lead there
abbrev pub is_idle : Option ChainId → Outgoing → Bool
is_idle to c = not (is_towards to c) || nat_eq (length c.queue) 0

-- what the messages of a channel carry, and those of all channels that lead there
abbrev pub in_channel : Carried → AssetId → Kind → Outgoing → ℕ
in_channel what id kind c = sum_by (λ (w : Waiting). carried_amount what id kind w.cargo) c.queue

abbrev pub channel_share : Carried → Option ChainId → AssetId → Kind → Outgoing → ℕ
channel_share what to id kind c = if is_towards to c then in_channel what id kind c else 0

abbrev pub total_sent : Carried → Option ChainId → List Outgoing → AssetId → Kind → ℕ
total_sent what to channels id kind = sum_by (channel_share what to id kind) channels

-- ---- of an asset

abbrev pub placed_at : UniversalAsset → ChainPart → ℕ
placed_at a p = over_rows p a (placed p)

abbrev pub burned_at : UniversalAsset → ChainPart → ℕ
burned_at a p = over_rows p a (burned_by_any_cause p.burns)

abbrev pub account_balance : List ℕ → UniversalAsset → ChainPart → ℕ
account_balance who a p = over_rows p a (λ id kind. account_sum_of who (id, kind) p.held)

abbrev pub teleports_at : UniversalAsset → ChainPart → ℕ
teleports_at a p = over_rows p a (total_sent Teleports None p.channels)

abbrev pub deposits_to : ChainId → UniversalAsset → ChainPart → ℕ
deposits_to chain a p = over_rows p a (total_sent Deposits (Some chain) p.channels)

abbrev pub withdrawals_to : ChainId → UniversalAsset → ChainPart → ℕ
withdrawals_to chain a p = over_rows p a (total_sent Withdrawals (Some chain) p.channels)

-- the same figures by their names
abbrev pub figure : Figure → ChainPart → AssetId → Kind → ℕ
figure Placed p id kind = placed p id kind
figure Burned p id kind = burned_by_any_cause p.burns id kind
figure (Account who) p id kind = account_sum_of who (id, kind) p.held
figure (Sent what to) p id kind = total_sent what to p.channels id kind
