-- Lemmas on the definitions of `specs/Facts.antt`: what proofs cite.
use Rattle.std.specs.Prelude.{◌≡◌, ◌≤◌, true, List, length}
use Rattle.locations.specs.declared.grammar.Junction.{Junction}
use Rattle.std.specs.List.{IsDistinct}
use Rattle.std.specs.Ordering.{eq_by_cmp}
use Rattle.asset_lists.specs.Listed.{Listed, listed_cmp}
use Rattle.trust_tables.specs.Trust.{listing}
use Rattle.asset_locks.specs.LockMaps.{LocksAndNotes}
use Rattle.ledgers.specs.Ledgers.{Held}
use Rattle.trust_tables.specs.declared.rows.AssetRow.{AssetRow}
use Rattle.operands.specs.declared.pallet.PalletInfo.{PalletInfo}
use Rattle.channel_parts.specs.Channels.{Outgoing}
use Rattle.asset_pools.specs.declared.pool.Pool.{Pool}
use Rattle.law_hosts.specs.Floors.{HasFloors, NoPoolLocks}
use Rattle.network_steps.specs.Tests.{have_paths, have_prices}
use Rattle.chain_state.specs.ListedFees.{are_fees_listed}
use Rattle.chain_state.specs.Facts.{IsSetUp, KeepsLockFloors, ArePayable}

pub is_set_up : (context : List Junction) (rows : List AssetRow) (pallets : List PalletInfo) (pools : List Pool)
    → IsDistinct (eq_by_cmp listed_cmp) (listing rows) → have_paths context rows ≡ true → length pallets ≤ 64 → length pools ≤ 16
    → IsSetUp context rows pallets pools
unfolding IsSetUp
is_set_up context rows pallets pools apart paths few_pallets few_pools = (apart, paths, few_pallets, few_pools)

pub keeps_floors : (pools : List Pool) (locked : LocksAndNotes) (held : Held)
    → HasFloors locked held → NoPoolLocks pools locked → KeepsLockFloors pools locked held
unfolding KeepsLockFloors
keeps_floors pools locked held floors free = (floors, free)

pub are_payable : (listed : List Listed) (channels : List Outgoing)
    → have_prices channels ≡ true → are_fees_listed listed channels ≡ true → ArePayable listed channels
unfolding ArePayable
are_payable listed channels prices fees = (prices, fees)
