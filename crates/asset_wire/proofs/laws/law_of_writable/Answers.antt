use Rattle.asset_wire.proofs.Lemmas.Written.{id_named, asset_writable, assets_named, filter_named}
use Rattle.asset_wire.proofs.laws.law_of_writable.Goals as goal

pub returns : goal.returns
returns c = record {
  asset_id = id_named;
  asset = asset_writable;
  assets = assets_named;
  filter = filter_named;
}
