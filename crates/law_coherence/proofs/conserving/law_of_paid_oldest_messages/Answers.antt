use Rattle.law_coherence.proofs.Lemmas.Payments.{withdrawal_paid}
use Rattle.law_coherence.proofs.Lemmas.CheckingLaws.{covers_teleport}
use Rattle.law_coherence.proofs.conserving.law_of_paid_oldest_messages.Goals as goal

pub returns : goal.returns
returns c = record {
  withdrawal = withdrawal_paid;
  teleport = λ genesis w i j p q a checking cargo kept at_i at_j apart home first is. covers_teleport w i j p q a checking cargo at_i at_j apart home first kept.checked is;
}
