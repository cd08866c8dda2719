use Rattle.asset_wire.proofs.Lemmas.FieldLaws.{asset_id_reads, instance_reads, asset_reads, assets_reads, filter_reads}
use Rattle.asset_wire.proofs.laws.law_of_readers.Goals as goal

pub returns : goal.returns
returns c = record {
  instance = instance_reads;
  asset_id = asset_id_reads;
  asset = asset_reads;
  assets = assets_reads;
  filter = filter_reads;
}
