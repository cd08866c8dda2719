use Rattle.law_coherence.proofs.Lemmas.Renaming.{moved_amount}
use Rattle.law_coherence.proofs.laws.law_of_renaming.Goals as goal

pub returns : goal.returns
returns c = moved_amount
