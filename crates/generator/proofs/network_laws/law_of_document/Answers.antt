use Rattle.generator.proofs.Reading.{is_accepted}
use Rattle.generator.proofs.Coherence.{no_cause}
use Rattle.generator.proofs.network_laws.law_of_document.Goals as goal

pub returns : goal.returns
returns c = record { accepted = is_accepted; coherent = no_cause }
