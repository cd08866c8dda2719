use Rattle.law_steps.proofs.Matching.{matched}
use Rattle.law_steps.proofs.shapes.law_of_matched_cargoes.Goals as goal

pub returns : goal.returns
returns c = matched
