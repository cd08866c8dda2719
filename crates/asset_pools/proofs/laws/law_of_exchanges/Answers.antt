use Rattle.std.proofs.Common.{refl}
use Rattle.ledgers.specs.Ledgers.{Holder}
use Rattle.asset_pools.specs.Spending.{IsSpeaker}
use Rattle.asset_pools.proofs.Lemmas.Keeping.{exchange_says, exchange_keeps_total}
use Rattle.asset_pools.proofs.Lemmas.SpendingLaws.{spends_exchange, exchange_listed}
use Rattle.asset_pools.proofs.laws.law_of_exchanges.Goals as goal

pub returns : goal.returns
returns c = record {
  kept = λ pools held give want maximal e made t. exchange_keeps_total pools held give e (exchange_says pools held give want maximal e made) (λ (h : Holder). t h.1) t (λ unit. refl);
  spends = λ pools held give want maximal e made s. spends_exchange (IsSpeaker s) pools held give e (exchange_says pools held give want maximal e made);
  listed = λ pools held give want maximal e made listed. exchange_listed listed pools held give e (exchange_says pools held give want maximal e made);
}
