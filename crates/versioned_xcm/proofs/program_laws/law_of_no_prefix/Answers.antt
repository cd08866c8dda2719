use Rattle.versioned_xcm.proofs.Lemmas.ProgramLaws.ProgramLaws.{no_prefix, no_instruction_prefix}
use Rattle.versioned_xcm.proofs.program_laws.law_of_no_prefix.Goals as goal

pub returns : goal.returns
returns c = record {
  program = no_prefix;
  instruction = no_instruction_prefix;
}
