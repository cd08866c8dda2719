use Rattle.scale_codec.proofs.Lemmas.ReadLaws.{prefix_free}
use Rattle.asset_wire.specs.Spelling.{asset_id, instance, asset, assets, filter}
use Rattle.asset_wire.proofs.Lemmas.FieldLaws.{asset_id_reads, instance_reads, asset_reads, assets_reads, filter_reads}
use Rattle.asset_wire.proofs.laws.law_of_no_prefix.Goals as goal

pub returns : goal.returns
returns c = record {
  instance = prefix_free instance _ _ instance_reads;
  asset_id = λ v. prefix_free (asset_id v) _ _ (asset_id_reads v);
  asset = λ v. prefix_free (asset v) _ _ (asset_reads v);
  assets = λ v. prefix_free (assets v) _ _ (assets_reads v);
  filter = λ v. prefix_free (filter v) _ _ (filter_reads v);
}
