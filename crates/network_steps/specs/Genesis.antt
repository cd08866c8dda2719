-- The first world of a network: what its document says of each chain, and nothing that happened. This project's own rule.
use Rattle.std.specs.Prelude.{ℕ, List, [], ◌∷◌, map, if◌then◌else◌}
use Rattle.amounts.specs.Amounts.{empty, merge}
use Rattle.operands.specs.declared.query.OpenQuery.{OpenQuery}
use Rattle.chain_ids.specs.declared.chain.ChainId.{ChainId}
use Rattle.chain_ids.specs.Chains.{same_chain}
use Rattle.trust_tables.specs.declared.chains.Site.{Site}
use Rattle.asset_bundles.specs.Bundles.{bundle_of}
use Rattle.ledgers.specs.Ledgers.{Held, held_by}
use Rattle.channel_parts.specs.declared.cargo.Cargo.{Cargo}
use Rattle.channel_parts.specs.declared.channel.Channel.{Channel}
use Rattle.channel_parts.specs.Channels.{opened}
use Rattle.weight_trader.specs.declared.rate.Rate.{Rate}
use Rattle.weight_trader.specs.Purchases.{new_lines}
use Rattle.law_coherence.specs.Causes.{ChainEntry}
use Rattle.asset_locks.specs.LockMaps.{no_locks}
use Rattle.exec_base.specs.declared.settings.Settings.{Settings}
use Rattle.exec_base.specs.Part.{ChainPart}
use Rattle.exec_rules.specs.declared.rules.ChainRules.{ChainRules}
use Rattle.network_steps.specs.Worlds.{Member, World}
use Rattle.network_steps.specs.Steps.{Link, name_at}
use Rattle.network_spec.specs.declared.chain.Balance.{Balance}
use Rattle.network_spec.specs.declared.chain.ChainSpec.{ChainSpec}
use Rattle.network_spec.specs.declared.network.ChannelSpec.{ChannelSpec}
use Rattle.network_spec.specs.declared.network.NetworkSpec.{NetworkSpec}
use Rattle.network_steps.specs.Tests.{row_checking}

-- ---- one chain

-- no account holds anything, nothing is trapped, bought, burned or sent
abbrev pub fresh : Settings → List Rate → List OpenQuery → List Channel → ChainPart
fresh settings rates queries channels = record {
  settings = settings;
  held = empty;
  traps = record { traps = []; next = 1 };
  lines = new_lines rates;
  fee_slot = empty;
  fees = empty;
  parked = [];
  burns = empty;
  checking = map row_checking settings.rows;
  locked = no_locks;
  queries = queries;
  channels = map opened channels;
  cargo = record { sender = settings.site.chain; cargo = Cargo.Nothing };
  events = [];
  pending_events = [];
}

abbrev pub site_of : NetworkSpec → ChainSpec → Site
site_of spec c = record { network = spec.network; chain = c.chain }

-- what the document says of a chain
abbrev pub settings_of : NetworkSpec → ChainSpec → Settings
settings_of spec c = record { site = site_of spec c; rows = c.assets; pallets = c.pallets; fee_account = c.fee_account; calls = c.calls; locks = c.locks; pools = c.pools }

-- an open query, by how the chain names the one that may answer it
abbrev pub query_of : ChainId → ℕ × ChainId → OpenQuery
query_of here query = record { id = query.0; from = name_at here query.1 }

-- the channels that lead from a chain, in listed order
abbrev pub channels_from : ChainId → List ChannelSpec → List Channel
channels_from from [] = []
channels_from from (c ∷ cs) = if same_chain c.from from then c.channel ∷ channels_from from cs else channels_from from cs

-- what accounts hold, with balances added
abbrev pub with_balance : Held → Balance → Held
with_balance held b = merge held (held_by b.who (bundle_of (b.asset ∷ [])))

abbrev pub with_balances : Held → List Balance → Held
with_balances held [] = held
with_balances held (b ∷ bs) = with_balances (with_balance held b) bs

-- the chain as nothing has happened on it, but for what accounts hold
abbrev pub bare_part : NetworkSpec → ChainSpec → ChainPart
bare_part spec c = fresh (settings_of spec c) c.rates (map (query_of c.chain) c.queries) (channels_from c.chain spec.channels)

-- the chain's part of the first world
abbrev pub part_at : NetworkSpec → ChainSpec → ChainPart
part_at spec c = record (bare_part spec c) { held = with_balances empty c.accounts }

-- how the chain runs programs
abbrev pub rules_of : ChainSpec → ChainRules
rules_of c = record { weight = c.rules; limit = c.limit; max_holding = c.max_holding; barriers = c.barriers }

-- ---- the network

abbrev pub member_of : NetworkSpec → ChainSpec → Member
member_of spec c = record { rules = rules_of c; part = part_at spec c }

abbrev pub first_world : NetworkSpec → World
first_world spec = map (member_of spec) spec.chains

-- the document's order of channels
abbrev pub order_of : NetworkSpec → List Link
order_of spec = map (λ (c : ChannelSpec). (c.from, c.channel.to)) spec.channels

-- each chain's table and what its accounts hold, as coherence looks at them
abbrev pub entry_of : NetworkSpec → ChainSpec → ChainEntry
entry_of spec c = record { table = record { site = site_of spec c; rows = c.assets }; held = with_balances empty c.accounts }

abbrev pub entries_of : NetworkSpec → List ChainEntry
entries_of spec = map (entry_of spec) spec.chains
