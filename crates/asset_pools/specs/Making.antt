-- What an exchange that is made answers and leaves. This project's own rule.
use Rattle.std.specs.Prelude.{◌≡◌, ◌<◌, ◌≤◌, ◌^◌, Bool, List, [], ◌∷◌, Some, None, Result, Ok, Err}
use Rattle.amounts.specs.Amounts.{amount, rows}
use Rattle.asset_lists.specs.declared.units.Asset.{Asset}
use Rattle.asset_bundles.specs.Bundles.{Bundle, held_assets}
use Rattle.ledgers.specs.Ledgers.{Accounts}
use Rattle.asset_pools.specs.declared.pool.Pool.{Pool}
use Rattle.asset_pools.specs.declared.exchanges.Exchange.{Exchange}
use Rattle.asset_pools.specs.declared.faults.ExchangeFault.{ExchangeFault}
use Rattle.asset_pools.specs.declared.faults.ExchangeFault.TheVariants.{NoDeal, Memory}
use Rattle.asset_pools.specs.Exchanges.{coin, exchange_of, held_after, goods_after}

-- goods of which the exchange can be made: one fungible asset, another than the wanted one, and as much of it
-- as goes to the pool; what comes of it is some, and below the end of reserves
pub record IsOffer (give : Bundle) (e : Exchange) : Type 0 where
  pub one : rows give ≡ (coin e.given, amount give (coin e.given)) ∷ []
  pub apart : coin e.given ≡ coin e.wanted → ⊥
  pub taken : e.deal.to_pool ≤ amount give (coin e.given)
  pub some : 0 < e.deal.to_holding
  pub below : e.deal.to_holding < 2 ^ 58

-- the exchange that the pools make is made; or goods are handed back, and no account has changed: NoDeal where
-- the pools make none
abbrev pub MakesExchange : List Pool → Accounts → Bundle → List Asset → Bool
    → Result Bundle (Bundle × ExchangeFault) → Accounts → Type 0
MakesExchange pools before give want maximal (Ok got) now =
    (e : Exchange) × (exchange_of pools before.held (held_assets give) want maximal ≡ Some e)
    × (got ≡ goods_after e give) × (now ≡ record before { held = held_after e before.held })
MakesExchange pools before give want maximal (Err (back, NoDeal)) now =
    (exchange_of pools before.held (held_assets give) want maximal ≡ None)
    × (back ≡ give) × (now ≡ before)
MakesExchange pools before give want maximal (Err (back, Memory)) now = (back ≡ give) × (now ≡ before)
