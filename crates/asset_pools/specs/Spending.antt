-- Whose amounts a change of accounts may lower where a chain has pools: some accounts', and a pool's of which the product doesn't fall. And
-- what the pools need of a chain. This project's own rule.
use Rattle.std.specs.Prelude.{◌≡◌, ◌⊎◌, ℕ, ◌<◌, ◌≤◌, ◌^◌, IsTrue, List, length, Option, Some, slice_get}
use Rattle.std.specs.List.{AllByRecursion}
use Rattle.amounts.specs.Amounts.{amount}
use Rattle.asset_lists.specs.declared.units.AssetId.TheVariants.{Concrete}
use Rattle.asset_lists.specs.Units.{Unit}
use Rattle.asset_lists.specs.Listed.{Listed, listed_of, lists}
use Rattle.ledgers.specs.Ledgers.{Held}
use Rattle.asset_pools.specs.declared.pool.Pool.{Pool}
use Rattle.asset_pools.specs.Exchanges.{pool_account, coin, reserve_product}

-- the account of one of the pools
abbrev pub IsPoolAccount : List Pool → List ℕ → Type 0
IsPoolAccount pools who = (index : ℕ) × (index < length pools) × (who ≡ pool_account index)

-- both assets of each pool are listed
abbrev pub ArePoolsListed : List Listed → List Pool → Type 0
ArePoolsListed listed pools =
    AllByRecursion (λ (pool : Pool). IsTrue (lists listed (listed_of (coin (Concrete pool.first))))
    × IsTrue (lists listed (listed_of (coin (Concrete pool.second))))) pools

-- no pool's product falls, but that of a pool whose account may be spent by others; of so many pools no two have
-- one account
abbrev pub KeepsProducts : (List ℕ → Type 0) → List Pool → Held → Held → Type 0
KeepsProducts may pools old new =
    length pools ≤ 2 ^ 32 → (index : ℕ) (pool : Pool) → slice_get pools index ≡ Some pool
    → (may (pool_account index) → ⊥)
    → reserve_product old index pool ≤ reserve_product new index pool

-- an account that has less of some unit is one that may, or a pool's
abbrev pub LowersOf : (List ℕ → Type 0) → List Pool → Held → Held → Type 0
LowersOf may pools old new =
    (who : List ℕ) (unit : Unit) → amount new (who, unit) < amount old (who, unit)
    → may who ⊎ IsPoolAccount pools who

-- the account that a change speaks for, if it speaks for one
abbrev pub IsSpeaker : Option (List ℕ) → List ℕ → Type 0
IsSpeaker speaker who = speaker ≡ Some who

-- what a change does to accounts, which may lower some besides those of pools
pub record Spends (may : List ℕ → Type 0) (pools : List Pool) (old new : Held) : Type 0 where
  pub lowers : LowersOf may pools old new
  pub products : KeepsProducts may pools old new
