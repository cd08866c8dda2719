use Rattle.versioned_xcm.proofs.Lemmas.ProgramLaws.Writable.{writable, writable_in}
use Rattle.versioned_xcm.proofs.program_laws.law_of_writable.Goals as goal

pub returns : goal.returns
returns c = record {
  same = writable;
  either = writable_in;
}
