use Rattle.law_coherence.proofs.Lemmas.CauseLaws.{agrees_of_no_cause}
use Rattle.law_coherence.proofs.laws.law_of_coherence.Goals as goal

pub returns : goal.returns
returns c = agrees_of_no_cause
