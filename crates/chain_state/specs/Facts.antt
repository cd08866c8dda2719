-- What always holds of a chain: of its settings, of what is locked there, and of its channels' fees. Each is one fact of a few parts. This project's own rules; that a location has at most 8 junctions is the XCM format's.
-- ---- the settings
use Rattle.std.specs.Prelude.{ℕ, ◌≡◌, ◌≤◌, true, List, length}
use Rattle.std.specs.Coded.{Coded-set, coded_bool, coded_ℕ, Π_prop, le_prop}
use Rattle.locations.specs.declared.grammar.Junction.{Junction}
use Rattle.std.specs.List.{IsDistinct, IsDistinct-prop}
use Rattle.std.specs.Ordering.{eq_by_cmp}
use Rattle.asset_lists.specs.Listed.{Listed, listed_cmp}
use Rattle.trust_tables.specs.Trust.{listing}
use Rattle.asset_lists.specs.Units.{Unit}
use Rattle.asset_locks.specs.LockMaps.{LocksAndNotes, LockKey, lock_at}
use Rattle.ledgers.specs.Ledgers.{Held}
use Rattle.trust_tables.specs.declared.rows.AssetRow.{AssetRow}
use Rattle.operands.specs.declared.pallet.PalletInfo.{PalletInfo}
use Rattle.channel_parts.specs.Channels.{Outgoing}
use Rattle.asset_pools.specs.declared.pool.Pool.{Pool}
use Rattle.asset_pools.specs.Exchanges.{is_pool_account}
use Rattle.law_hosts.specs.Floors.{HasFloors, NoPoolLocks}
use Rattle.network_steps.specs.Tests.{have_paths, have_prices}
use Rattle.chain_state.specs.ListedFees.{are_fees_listed}

-- no two rows list one asset, the id of each has a path of at most 8 junctions, and there are at most 64 pallets and 16 pools
unfoldable pub IsSetUp : List Junction → List AssetRow → List PalletInfo → List Pool → Type 0
IsSetUp context rows pallets pools =
    (IsDistinct (eq_by_cmp listed_cmp) (listing rows)) × (have_paths context rows ≡ true) × (length pallets ≤ 64) × (length pools ≤ 16)

pub IsSetUp-prop : (context : List Junction) (rows : List AssetRow) (pallets : List PalletInfo) (pools : List Pool)
    → IsProp (IsSetUp context rows pallets pools)
unfolding IsSetUp
IsSetUp-prop context rows pallets pools a b = λ i. (
  IsDistinct-prop (eq_by_cmp listed_cmp) (listing rows) a.0 b.0 i,
  Coded-set coded_bool (have_paths context rows) true a.1 b.1 i,
  le_prop a.2 b.2 i,
  le_prop a.3 b.3 i,
)

-- ---- what is locked

-- each account has what is locked on it, and nothing is locked on an account of a pool
unfoldable pub KeepsLockFloors : List Pool → LocksAndNotes → Held → Type 0
KeepsLockFloors pools locked held = (HasFloors locked held) × (NoPoolLocks pools locked)

pub KeepsLockFloors-prop : (pools : List Pool) (locked : LocksAndNotes) (held : Held) → IsProp (KeepsLockFloors pools locked held)
unfolding KeepsLockFloors
KeepsLockFloors-prop pools locked held a b = λ i. (
  Π_prop (λ (who : List ℕ). Π_prop (λ (unit : Unit). le_prop)) a.0 b.0 i,
  Π_prop (λ (key : LockKey). Π_prop (λ (pool : is_pool_account pools key.0 ≡ true). Coded-set coded_ℕ (lock_at key locked) 0)) a.1 b.1 i,
)

-- ---- fees of channels

-- the fee of each channel, where it has one, is an amount above 0 of a fungible asset that is listed
unfoldable pub ArePayable : List Listed → List Outgoing → Type 0
ArePayable listed channels = (have_prices channels ≡ true) × (are_fees_listed listed channels ≡ true)

pub ArePayable-prop : (listed : List Listed) (channels : List Outgoing) → IsProp (ArePayable listed channels)
unfolding ArePayable
ArePayable-prop listed channels a b = λ i. (
  Coded-set coded_bool (have_prices channels) true a.0 b.0 i,
  Coded-set coded_bool (are_fees_listed listed channels) true a.1 b.1 i,
)
