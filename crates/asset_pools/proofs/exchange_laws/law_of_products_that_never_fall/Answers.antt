use Rattle.asset_pools.proofs.Lemmas.ExchangeLaws.{best_keeps, least_keeps, deal_keeps, requests_keep}
use Rattle.asset_pools.proofs.exchange_laws.law_of_products_that_never_fall.Goals as goal

pub returns : goal.returns
returns c = record { best_out = best_keeps; least_in = least_keeps; deal_at = deal_keeps; lists = requests_keep }
