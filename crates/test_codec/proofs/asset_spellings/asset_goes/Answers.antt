use Rattle.std.proofs.Common.{sym, subst}
use Rattle.asset_wire.proofs.Lemmas.FieldLaws.{asset_reads}
use Rattle.asset_wire.proofs.Lemmas.Written.{asset_writable}
use Rattle.asset_wire.specs.Spelling.{IsWritableAsset}
use Rattle.test_codec.proofs.asset_spellings.asset_goes.Goals as goal

-- what was read can be written
pub put_asset-written-requires : goal.put_asset-written-requires
put_asset-written-requires c =
    subst (IsWritableAsset c.args.v) (sym c.value.ensures) (asset_writable c.args.v c.in_ok-read.read ((asset_reads c.args.v).takes _ _ _ c.in_ok-read.ensures).1)
