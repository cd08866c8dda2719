use Rattle.network_validity.proofs.Opening.{opens}
use Rattle.network_validity.proofs.laws.law_of_valid_networks.Goals as goal

pub returns : goal.returns
returns c = opens
