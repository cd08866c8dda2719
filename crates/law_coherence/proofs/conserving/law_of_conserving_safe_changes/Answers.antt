use Rattle.law_coherence.proofs.Lemmas.Steps.{safe_step, safe_exchange}
use Rattle.law_coherence.proofs.conserving.law_of_conserving_safe_changes.Goals as goal

pub returns : goal.returns
returns c = record { one = safe_step; two = safe_exchange }
