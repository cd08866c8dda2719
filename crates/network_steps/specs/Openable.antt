-- What a network must be to open: what every network that is read from a document is. This project's own rule.
use Rattle.std.specs.Prelude.{◌≡◌, ◌<◌, ◌≤◌, true, false, IsTrue, List, length, sum_by}
use Rattle.std.specs.List.{All, IsDistinct, list_all}
use Rattle.std.specs.Ordering.{eq_by_cmp}
use Rattle.locations.specs.declared.grammar.NetworkId.{NetworkId}
use Rattle.asset_lists.specs.Listed.{listed_cmp}
use Rattle.chain_ids.specs.Chains.{same_chain}
use Rattle.trust_tables.specs.Accounts.{IsChain}
use Rattle.trust_tables.specs.Chains.{path_of_site}
use Rattle.trust_tables.specs.Trust.{listing}
use Rattle.weight_trader.specs.Purchases.{NameEachOnce, new_lines}
use Rattle.asset_pools.specs.Spending.{ArePoolsListed}
use Rattle.law_coherence.specs.UniversalAssets.{UniversalAsset, every}
use Rattle.law_coherence.specs.Causes.{ChainEntry, amount_at}
use Rattle.network_spec.specs.declared.chain.ChainSpec.{ChainSpec}
use Rattle.network_spec.specs.declared.network.ChannelSpec.{ChannelSpec}
use Rattle.network_spec.specs.declared.network.NetworkSpec.{NetworkSpec}
use Rattle.network_spec.specs.Networks.{same_holding, is_in_order, has_chain}
use Rattle.network_steps.specs.Tests.{have_paths, may_have_checkings, have_low_checkings, are_rates_listed, past_amounts, is_balance, fee_is_price, lists_fee, same_link}
use Rattle.network_steps.specs.Genesis.{entries_of}

-- a chain: its rows list each asset once, under ids that have a path; an execution may hold all that one list names; a rate's asset is
-- listed and has one rate; balances are of listed assets, above 0 and below 2^127, each account with each asset once and each instance once;
-- both assets of a pool are listed
pub record IsOpenableChain (network : NetworkId) (c : ChainSpec) : Type 0 where
  pub named : IsChain c.chain
  pub listed_once : IsDistinct (eq_by_cmp listed_cmp) (listing c.assets)
  pub few_assets : length c.assets ≤ 128
  pub paths : IsTrue (have_paths (path_of_site (record { network = network; chain = c.chain })) c.assets)
  pub checkings : IsTrue (may_have_checkings c.assets)
  pub room : 20 ≤ c.max_holding
  pub priced_once : NameEachOnce c.rates
  pub rates : IsTrue (are_rates_listed (listing c.assets) (new_lines c.rates))
  pub few_pallets : length c.pallets ≤ 64
  pub few_pools : length c.pools ≤ 16
  pub pools : ArePoolsListed (listing c.assets) c.pools
  pub balances : IsTrue (list_all (is_balance c.assets) c.accounts)
  -- checking accounts begin below 2^127 too
  pub low_checkings : IsTrue (have_low_checkings c.assets)
  pub held_once : IsDistinct same_holding c.accounts

-- a channel: it leads from one chain of the network to another, and its fee, where it has one, is a price in a listed asset of the sender
pub record IsOpenableChannel (chains : List ChainSpec) (c : ChannelSpec) : Type 0 where
  pub from : IsTrue (has_chain chains c.from)
  pub to : IsTrue (has_chain chains c.channel.to)
  pub apart : same_chain c.from c.channel.to ≡ false
  pub price : IsTrue (fee_is_price c.channel.fee)
  pub listed : All (λ (d : ChainSpec). same_chain d.chain c.from ≡ true → IsTrue (lists_fee d.assets c.channel.fee)) chains

-- a network: the relay chain first, then parachains rising by number; each channel once, and at most 256; of no asset 2^127 or more in all
pub record IsOpenable (spec : NetworkSpec) : Type 0 where
  pub order : IsTrue (is_in_order spec.chains)
  pub chains : All (IsOpenableChain spec.network) spec.chains
  pub channels : All (IsOpenableChannel spec.chains) spec.channels
  pub linked_once : IsDistinct same_link spec.channels
  pub few_channels : length spec.channels ≤ 256
  pub small : (a : UniversalAsset) → sum_by (λ (e : ChainEntry). amount_at a every e) (entries_of spec) < past_amounts
