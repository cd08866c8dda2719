use Rattle.std.proofs.lemmas.Result.{err_from_is_err_and}
use Rattle.scale_codec.proofs.Lemmas.ReadLaws.{refuses_as}
use Rattle.versioned_xcm.proofs.Lemmas.ProgramLaws.ProgramLaws.{readable_when, readable_unless}
use Rattle.versioned_xcm.proofs.reading.take_program.Goals as goal

pub returns-in_err-program : goal.returns-in_err-program
returns-in_err-program c =
    let p = err_from_is_err_and c.from_residual.result c.from_residual.ensures.1 in
    rw (p.1, p.2) (refuses_as c.in_err-program.field-0.0 _ _ (readable_unless c.args.v _) c.in_err-program.ensures)

pub returns : goal.returns
returns c = readable_when _ _ _ _ _ c.in_ok-program.ensures
