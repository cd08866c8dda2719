use Rattle.xcm_format.proofs.Lemmas.{named_from, named_to, named3}
use Rattle.xcm_format.proofs.laws.law_of_conversions.Goals as goal

pub returns-clause-version_4 : goal.returns-clause-version_4
returns-clause-version_4 c = λ program. (named_from program, named_to program)

pub returns-clause-version_3 : goal.returns-clause-version_3
returns-clause-version_3 c = named3
