use Rattle.std.proofs.Common.{rules}
use Rattle.operands.specs.declared.version.Version.TheVariants.{V4}
use Rattle.xcm_program.specs.Conversions.{HasAmounts}
use Rattle.xcm_format.specs.Writable.{IsNamedOne}
use Rattle.versioned_xcm.proofs.Lemmas.ProgramLaws.Writable.{fits_named, fits_amounts}
use Rattle.test_codec.proofs.Examples.{of_first}
use Rattle.test_codec.proofs.program_spellings.first_of.Goals as goal

pub write_instruction-requires-clause-named : goal.write_instruction-requires-clause-named
write_instruction-requires-clause-named c = of_first (IsNamedOne V4) c.in_ok-program.program _ (search rules) (search rules) (fits_named V4 _ c.in_ok-program.ensures.spelling.0.fits)

pub write_instruction-requires-clause-amounts : goal.write_instruction-requires-clause-amounts
write_instruction-requires-clause-amounts c = of_first HasAmounts c.in_ok-program.program _ (search rules) (search rules) (fits_amounts V4 _ c.in_ok-program.ensures.spelling.0.fits)
