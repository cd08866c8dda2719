use Rattle.law_coherence.proofs.Lemmas.Cargoes.{teleport_trusted, deposit_trusted}
use Rattle.law_coherence.proofs.conserving.law_of_trusted_cargoes.Goals as goal

pub returns : goal.returns
returns c = record { teleport = teleport_trusted; deposit = deposit_trusted }
