use Rattle.law_hosts.proofs.Exchanging.{conserves_exchange}
use Rattle.law_hosts.proofs.laws.law_of_exchanged_goods.Goals as goal

pub returns : goal.returns
returns c = conserves_exchange
