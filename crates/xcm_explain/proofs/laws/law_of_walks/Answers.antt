use Rattle.xcm_explain.proofs.Agreeing.{program_walked}
use Rattle.xcm_explain.proofs.laws.law_of_walks.Goals as goal

pub returns : goal.returns
returns c = program_walked
