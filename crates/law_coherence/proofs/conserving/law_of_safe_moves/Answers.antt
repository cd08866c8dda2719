use Rattle.law_coherence.proofs.Lemmas.Moves.{internal_safe, sent_safe, lost_safe, received_safe}
use Rattle.law_coherence.proofs.conserving.law_of_safe_moves.Goals as goal

pub returns : goal.returns
returns c = record { internal = internal_safe; sent = sent_safe; lost = lost_safe; received = received_safe }
