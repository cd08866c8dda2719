use Rattle.law_coherence.proofs.Lemmas.Headline.{headline}
use Rattle.law_coherence.proofs.conserving.law_of_conserved_histories.Goals as goal

pub returns : goal.returns
returns c = headline
