use Rattle.asset_lists.proofs.Lemmas.UnitLaws.{instances_exactly, ids_exactly, units_exactly, assets_exactly}
use Rattle.asset_lists.proofs.Lemmas.{instances_same}
use Rattle.asset_lists.proofs.laws.law_of_exact_asset_orders.Goals as goal

pub returns : goal.returns
returns c = record {
  instances = instances_exactly;
  derived = instances_same;
  ids = ids_exactly;
  units = units_exactly;
  assets = assets_exactly;
}
