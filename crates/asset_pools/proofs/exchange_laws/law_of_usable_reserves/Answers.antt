use Rattle.asset_pools.proofs.Lemmas.Products.{out_below}
use Rattle.asset_pools.proofs.Lemmas.ExchangeLaws.{requests_within}
use Rattle.asset_pools.proofs.exchange_laws.law_of_usable_reserves.Goals as goal

pub returns : goal.returns
returns c = record { below = out_below; lists = requests_within }
