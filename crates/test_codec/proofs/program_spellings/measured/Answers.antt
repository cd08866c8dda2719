use Rattle.versioned_xcm.proofs.Lemmas.ProgramLaws.Writable.{writable}
use Rattle.test_codec.proofs.program_spellings.measured.Goals as goal

pub write_program-requires : goal.write_program-requires
write_program-requires c = writable _ _ c.in_ok-program.ensures.spelling.0
