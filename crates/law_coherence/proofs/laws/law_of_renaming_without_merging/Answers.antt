use Rattle.law_coherence.proofs.Lemmas.Twins.{twin_named, stay_apart}
use Rattle.law_coherence.proofs.laws.law_of_renaming_without_merging.Goals as goal

pub returns : goal.returns
returns c = record { named = twin_named; apart = stay_apart }
