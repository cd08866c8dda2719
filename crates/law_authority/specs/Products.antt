-- That no step lowers the product of a pool's reserves. This project's own rule.
use Rattle.std.specs.Prelude.{◌≡◌, ◌≤◌, ◌^◌, ℕ, length, Some, slice_get}
use Rattle.asset_pools.specs.declared.pool.Pool.{Pool}
use Rattle.asset_pools.specs.Exchanges.{reserve_product}
use Rattle.network_steps.specs.Worlds.{Member, World}

-- at each chain each of its pools has as great a product as before
abbrev pub NoProductFalls : World → World → Type 0
NoProductFalls old new =
    (place : ℕ) (before now : Member) → slice_get old place ≡ Some before → slice_get new place ≡ Some now
    → (n : ℕ) (pool : Pool) → slice_get before.part.pools n ≡ Some pool
    → reserve_product before.part.held n pool ≤ reserve_product now.part.held n pool

-- no chain has more pools than have accounts of their own
abbrev pub HaveFewPools : World → Type 0
HaveFewPools w =
    (place : ℕ) (m : Member) → slice_get w place ≡ Some m → length m.part.pools ≤ 2 ^ 32
