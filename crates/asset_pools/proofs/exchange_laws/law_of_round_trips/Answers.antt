use Rattle.asset_pools.proofs.Lemmas.ExchangeLaws.{round_trips}
use Rattle.asset_pools.proofs.exchange_laws.law_of_round_trips.Goals as goal

pub returns : goal.returns
returns c = round_trips
