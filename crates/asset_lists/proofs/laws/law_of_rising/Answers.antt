use Rattle.asset_lists.proofs.Lemmas.{once_each, rising_says}
use Rattle.asset_lists.proofs.laws.law_of_rising.Goals as goal

pub returns-clause-places : goal.returns-clause-places
returns-clause-places c = rising_says

pub returns-clause-once : goal.returns-clause-once
returns-clause-once c = λ xs unit rising. once_each xs rising unit
