-- What an exchange with the chain's pools refuses, what it leaves of the chain, and what comes of the goods. This project's own rule.
use Rattle.std.specs.Prelude.{Bool, is_some, List, Option, None}
use Rattle.std.specs.Option.{option_map_or}
use Rattle.operands.specs.declared.error.XcmError.{XcmError}
use Rattle.operands.specs.declared.error.XcmError.TheVariants as error
use Rattle.asset_lists.specs.declared.units.Asset.{Asset}
use Rattle.asset_bundles.specs.Bundles.{Bundle, held_assets}
use Rattle.asset_pools.specs.declared.exchanges.Exchange.{Exchange}
use Rattle.asset_pools.specs.Exchanges.{exchange_of, held_after, goods_after}
use Rattle.exec_base.specs.Part.{ChainPart}
use Rattle.exec_base.specs.Sending.{unless}

-- the exchange that the chain's pools make of goods, if they make one
abbrev pub exchange_at : ChainPart → Bundle → List Asset → Bool → Option Exchange
exchange_at p give want maximal = exchange_of p.pools p.held (held_assets give) want maximal

-- NoDeal where there is none
unfoldable pub exchange_refusal : ChainPart → Bundle → List Asset → Bool → Option XcmError
exchange_refusal p give want maximal =
    unless (is_some (exchange_at p give want maximal)) error.NoDeal None

-- the pool's account takes in what is given, and gives what is wanted
unfoldable pub exchanged : ChainPart → Bundle → List Asset → Bool → ChainPart
exchanged p give want maximal =
    option_map_or (λ (e : Exchange). record p { held = held_after e p.held })
    (exchange_at p give want maximal) p

-- what is left of the goods, and what is wanted
unfoldable pub exchange_goods : ChainPart → Bundle → List Asset → Bool → Bundle
exchange_goods p give want maximal =
    option_map_or (λ (e : Exchange). goods_after e give) (exchange_at p give want maximal) give
