use Rattle.asset_wire.proofs.Lemmas.FieldLaws.{filter_reads}
use Rattle.asset_wire.proofs.Lemmas.Written.{filter_named}
use Rattle.test_codec.proofs.asset_spellings.filter_goes.Goals as goal

-- what was read can be written
pub put_filter-written-requires : goal.put_filter-written-requires
put_filter-written-requires c = filter_named c.args.v c.in_ok-read.read ((filter_reads c.args.v).takes _ _ _ c.in_ok-read.ensures).1
