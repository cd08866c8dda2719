use Rattle.asset_wire.proofs.Lemmas.FieldLaws.{assets_reads}
use Rattle.asset_wire.proofs.Lemmas.Written.{assets_named}
use Rattle.test_codec.proofs.asset_spellings.list_goes.Goals as goal

-- what was read can be written
pub put_assets-written-requires : goal.put_assets-written-requires
put_assets-written-requires c = assets_named c.args.v c.in_ok-read.read ((assets_reads c.args.v).takes _ _ _ c.in_ok-read.ensures).1
