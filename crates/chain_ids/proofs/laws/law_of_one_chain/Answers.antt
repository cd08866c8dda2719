use Rattle.chain_ids.proofs.Lemmas.{same_chain_says}
use Rattle.chain_ids.proofs.laws.law_of_one_chain.Goals as goal

pub returns : goal.returns
returns c = same_chain_says
