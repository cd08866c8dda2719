use Rattle.std.proofs.Common.{rules}
use Rattle.scale_codec.proofs.Lemmas.ReadLaws.{is_read_or_fails}
use Rattle.xcm_format.specs.Programs.{program_spelling}
use Rattle.versioned_xcm.proofs.Lemmas.ProgramLaws.ProgramLaws.{program_reads}
use Rattle.versioned_xcm.proofs.reading.read_program.Goals as goal

pub returns-clause-spelling : goal.returns-clause-spelling
returns-clause-spelling c = is_read_or_fails (program_spelling c.args.v) _ _ (program_reads c.args.v) c.settle.result _ _ (search rules)
