use Rattle.law_coherence.proofs.Lemmas.Genesis.{sound_first}
use Rattle.law_coherence.proofs.conserving.law_of_sound_first_worlds.Goals as goal

pub returns : goal.returns
returns c = sound_first
