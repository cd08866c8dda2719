-- Goods are exchanged with a pool.
use Rattle.std.proofs.Common.{◌≡◌, Bool, List, Option, Some, None, refl, arith}
use Rattle.std.specs.Option.{option_map_or}
use Rattle.asset_lists.specs.declared.units.Asset.{Asset}
use Rattle.asset_bundles.specs.Bundles.{Bundle}
use Rattle.asset_bundles.specs.Books.{is_unit_where}
use Rattle.ledgers.specs.Ledgers.{Holder}
use Rattle.asset_pools.specs.declared.exchanges.Exchange.{Exchange}
use Rattle.asset_pools.specs.Exchanges.{held_after, goods_after}
use Rattle.asset_pools.proofs.Lemmas.Keeping.{exchange_says, exchange_keeps_total}
use Rattle.exec_base.specs.Part.{ChainPart}
use Rattle.exec_base.specs.Pools.{exchange_at, exchanged, exchange_goods}
use Rattle.law_hosts.specs.Wholes.{on_chain, Conserves}

exchange_conserves : (p : ChainPart) (give : Bundle) (want : List Asset) (maximal : Bool) (o : Option Exchange) → exchange_at p give want maximal ≡ o
    → Conserves give (option_map_or (λ (e : Exchange). goods_after e give) o give) p (option_map_or (λ (e : Exchange). record p { held = held_after e p.held }) o p)
unfolding on_chain
exchange_conserves p give want maximal None is test = refl
exchange_conserves p give want maximal (Some e) is test =
    let both = exchange_keeps_total p.pools p.held give e (exchange_says p.pools p.held give want maximal e is) (λ (h : Holder). is_unit_where test h.1) (is_unit_where test) (λ unit. refl) in
    omega (arith, both)

pub conserves_exchange : (p : ChainPart) (give : Bundle) (want : List Asset) (maximal : Bool) → Conserves give (exchange_goods p give want maximal) p (exchanged p give want maximal)
unfolding exchanged exchange_goods
conserves_exchange p give want maximal = exchange_conserves p give want maximal (exchange_at p give want maximal) refl
