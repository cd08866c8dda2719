use Rattle.scale_codec.proofs.Lemmas.ReadLaws.{one_spelling}
use Rattle.xcm_format.specs.Programs.{program_spelling, FitsProgram}
use Rattle.versioned_xcm.proofs.program_laws.law_of_one_spelling.Goals as goal

pub returns : goal.returns
returns c = λ v. one_spelling (program_spelling v) (FitsProgram v)
