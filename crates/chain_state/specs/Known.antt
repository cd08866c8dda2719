-- For proofs alone: a reader may skip this file. The parts of what always holds of a chain.
use Rattle.std.specs.Prelude.{◌≡◌, ◌≤◌, true, length}
use Rattle.std.specs.List.{IsDistinct}
use Rattle.std.specs.Ordering.{eq_by_cmp}
use Rattle.asset_lists.specs.Listed.{listed_cmp}
use Rattle.trust_tables.specs.Chains.{path_of_site}
use Rattle.trust_tables.specs.Trust.{listing}
use Rattle.chain_queues.specs.Queues.{channels_of}
use Rattle.law_hosts.specs.Floors.{HasFloors, NoPoolLocks}
use Rattle.network_steps.specs.Tests.{have_paths, have_prices}
use Rattle.chain_state.specs.declared.state.ChainState.{ChainState}
use Rattle.chain_state.specs.ListedFees.{are_fees_listed}
use Rattle.chain_state.specs.Facts.{IsSetUp, KeepsLockFloors, ArePayable}

module _ (f : ChainState) where
  pub apart_there : IsDistinct (eq_by_cmp listed_cmp) (listing f.settings.rows)
  unfolding IsSetUp
  apart_there = f.set_up.0

  pub paths_there : have_paths (path_of_site f.settings.site) f.settings.rows ≡ true
  unfolding IsSetUp
  paths_there = f.set_up.1

  pub few_pallets : length f.settings.pallets ≤ 64
  unfolding IsSetUp
  few_pallets = f.set_up.2

  pub few_pools : length f.settings.pools ≤ 16
  unfolding IsSetUp
  few_pools = f.set_up.3

  pub floors_there : HasFloors f.locked f.ledger.held
  unfolding KeepsLockFloors
  floors_there = f.floors.0

  pub pools_free : NoPoolLocks f.settings.pools f.locked
  unfolding KeepsLockFloors
  pools_free = f.floors.1

  pub prices_there : have_prices (channels_of f.queues) ≡ true
  unfolding ArePayable
  prices_there = f.payable.0

  pub fees_there : are_fees_listed (listing f.settings.rows) (channels_of f.queues) ≡ true
  unfolding ArePayable
  fees_there = f.payable.1
