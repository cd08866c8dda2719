use Rattle.law_coherence.proofs.Lemmas.Histories.{safe_history, never_passes}
use Rattle.law_coherence.proofs.conserving.law_of_repeated_safe_changes.Goals as goal

pub returns : goal.returns
returns c = record { kept = safe_history; small = never_passes }
