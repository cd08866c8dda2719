use Rattle.asset_pools.specs.Spending.{IsSpeaker}
use Rattle.asset_pools.proofs.Lemmas.SpendingLaws.{spends_then, spends_others}
use Rattle.asset_pools.proofs.laws.law_of_spending.Goals as goal

pub returns : goal.returns
returns c = record { after = λ s. spends_then (IsSpeaker s); others = λ s. spends_others (IsSpeaker s) }
