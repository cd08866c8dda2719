use Rattle.xcm_format.proofs.Lemmas.OperandLaws.FieldLaws.{response_reads}
use Rattle.xcm_format.proofs.Lemmas.OperandLaws.Written.{response_named}
use Rattle.test_codec.proofs.part_spellings.response_goes.Goals as goal

-- what was read can be written
pub put_response-requires : goal.put_response-requires
put_response-requires c = response_named c.args.v c.in_ok-read.read ((response_reads c.args.v).takes _ _ _ c.in_ok-read.ensures).1
