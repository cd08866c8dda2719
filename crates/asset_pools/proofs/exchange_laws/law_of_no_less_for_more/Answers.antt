use Rattle.asset_pools.proofs.Lemmas.ExchangeLaws.{best_more, least_more}
use Rattle.asset_pools.proofs.exchange_laws.law_of_no_less_for_more.Goals as goal

pub returns : goal.returns
returns c = record { gives = best_more; costs = least_more }
