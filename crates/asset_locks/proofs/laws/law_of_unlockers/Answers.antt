use Rattle.asset_locks.proofs.Lemmas.{undone, two_locks}
use Rattle.asset_locks.proofs.laws.law_of_unlockers.Goals as goal

pub returns : goal.returns
returns c = record { undone = undone; two = two_locks }
