-- Exchanges with the pools of a chain: which pool serves, what goes to it and comes of it, and what the accounts and the goods are
-- afterwards. This project's own rule.
--     index      the index of a pool in the chain's list of pools
--     give       the list of what is offered
--     want       the list of what is wanted
use Rattle.std.specs.Prelude.{ℕ, ◌-◌, ◌*◌, Bool, not, ◌&&◌, ◌||◌, List, [], ◌∷◌, codes, length, Option, Some, None, option_and_then, position, slice_get}
use Rattle.std.specs.List.{list_any, range_with_len}
use Rattle.std.specs.Str.{bytes_eq}
use Rattle.std.specs.Option.{option_map}
use Rattle.std.specs.Ordering.{eq_by_cmp}
use Rattle.amounts.specs.Amounts.{amount, plus, minus}
use Rattle.asset_lists.specs.declared.units.AssetId.{AssetId}
use Rattle.asset_lists.specs.declared.units.AssetId.TheVariants.{Concrete}
use Rattle.asset_lists.specs.declared.units.Fun.{Fun}
use Rattle.asset_lists.specs.declared.units.Fun.TheVariants.{Fungible, NonFungible}
use Rattle.asset_lists.specs.declared.units.Asset.{Asset}
use Rattle.asset_lists.specs.Units.{Unit, asset_id_cmp}
use Rattle.asset_bundles.specs.Bundles.{Bundle}
use Rattle.trust_tables.specs.Accounts.{labelled}
use Rattle.ledgers.specs.Ledgers.{Held}
use Rattle.asset_pools.specs.declared.deal.Deal.{Deal}
use Rattle.asset_pools.specs.Pools.{deal_at}
use Rattle.asset_pools.specs.declared.pool.Pool.{Pool}
use Rattle.asset_pools.specs.declared.exchanges.Exchange.{Exchange}

-- ---- pools

-- the account of the pool at an index
abbrev pub pool_account : ℕ → List ℕ
pool_account index = labelled (codes "pool") index

-- the account of one of so many pools
abbrev pub is_pool_account : List Pool → List ℕ → Bool
is_pool_account pools account =
    list_any (λ (index : ℕ). bytes_eq account (pool_account index)) (range_with_len 0 (length pools))

-- how many thousandths of what is given count
abbrev pub pool_share : Pool → ℕ
pool_share pool = 1000 - pool.fee

-- the fungible unit of an asset
abbrev pub coin : AssetId → Unit
coin id = (id, None)

abbrev pub same_id : AssetId → AssetId → Bool
same_id a b = eq_by_cmp asset_id_cmp a b

-- the pool's two assets are these, in whichever order, and not one asset twice
abbrev pub has_pair : AssetId → AssetId → Pool → Bool
has_pair a b pool =
    not (same_id a b)
    && ((same_id a (Concrete pool.first) && same_id b (Concrete pool.second))
    || (same_id a (Concrete pool.second) && same_id b (Concrete pool.first)))

-- what an account has of a fungible asset
abbrev pub reserve : Held → List ℕ → AssetId → ℕ
reserve held account id = amount held (account, coin id)

-- the product of the two reserves of the pool at an index
abbrev pub reserve_product : Held → ℕ → Pool → ℕ
reserve_product held index pool =
    reserve held (pool_account index) (Concrete pool.first)
    * reserve held (pool_account index) (Concrete pool.second)

-- ---- an exchange

-- the one fungible asset of a list, with its amount
abbrev pub amount_of_one : AssetId → Fun → Option (AssetId × ℕ)
amount_of_one id (Fungible n) = Some (id, n)
amount_of_one id (NonFungible instance) = None

abbrev pub one_fungible : List Asset → Option (AssetId × ℕ)
one_fungible [] = None
one_fungible (a ∷ []) = amount_of_one a.id a.fun
one_fungible (a ∷ b ∷ rest) = None

-- with the pool at an index, whose reserves are what its account has
abbrev pub exchange_with : Held → AssetId × ℕ → AssetId × ℕ → Bool → ℕ → Pool → Option Exchange
exchange_with held give want maximal index pool =
    option_map
    (λ (d : Deal). let e : Exchange = record { place = index; given = give.0; wanted = want.0; deal = d } in e)
    (deal_at (reserve held (pool_account index) give.0) (reserve held (pool_account index) want.0)
    (pool_share pool) give.1 want.1 maximal)

-- with the first pool that has the two assets
abbrev pub exchange_of_pair : List Pool → Held → AssetId × ℕ → AssetId × ℕ → Bool → Option Exchange
exchange_of_pair pools held give want maximal =
    option_and_then
    (λ (index : ℕ). option_and_then (exchange_with held give want maximal index) (slice_get pools index))
    (position (has_pair give.0 want.0) pools)

-- the exchange of one fungible asset for one other; none where another list is offered or wanted, no pool has
-- the two, or there is no deal
unfoldable pub exchange_of : List Pool → Held → List Asset → List Asset → Bool → Option Exchange
exchange_of pools held give want maximal =
    option_and_then
    (λ (g : AssetId × ℕ). option_and_then
    (λ (w : AssetId × ℕ). exchange_of_pair pools held g w maximal) (one_fungible want))
    (one_fungible give)

-- ---- what is afterwards

-- the pool's account has so much less of the wanted asset, and so much more of the given one
abbrev pub held_after : Exchange → Held → Held
held_after e held =
    plus (minus held (pool_account e.place, coin e.wanted) e.deal.to_holding)
    (pool_account e.place, coin e.given) e.deal.to_pool

-- the goods have so much less of the given asset, and so much more of the wanted one
abbrev pub goods_after : Exchange → Bundle → Bundle
goods_after e give =
    plus (minus give (coin e.given) e.deal.to_pool) (coin e.wanted) e.deal.to_holding
