use Rattle.network_validity.proofs.Opening.{opens}
use Rattle.network_validity.proofs.laws.law_of_read_networks.Goals as goal

pub returns : goal.returns
returns c = record { opens = λ bytes spec read. opens spec (c.law_of_documents.ensures.named bytes spec read) (c.law_of_documents.ensures.valid bytes spec read) }
