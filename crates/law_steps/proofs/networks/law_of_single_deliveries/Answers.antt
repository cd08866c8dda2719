use Rattle.law_steps.proofs.Lemmas.DrainedLaws.{same_end}
use Rattle.law_steps.proofs.networks.law_of_single_deliveries.Goals as goal

pub returns : goal.returns
returns c = same_end
