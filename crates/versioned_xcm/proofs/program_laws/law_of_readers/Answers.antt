use Rattle.versioned_xcm.proofs.Lemmas.ProgramLaws.ProgramLaws.{program_reads}
use Rattle.versioned_xcm.proofs.program_laws.law_of_readers.Goals as goal

pub returns : goal.returns
returns c = program_reads
