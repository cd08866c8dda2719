use Rattle.asset_bundles.proofs.Lemmas.BundleLaws.{held_assets-holding, goods-holding}
use Rattle.asset_bundles.proofs.Lemmas.{asset_of_unit}
use Rattle.asset_bundles.proofs.Listing.{holding_of_list}
use Rattle.asset_bundles.proofs.PieceFacts.{once_held, is_piece}
use Rattle.asset_bundles.proofs.laws.law_of_bundles.Goals as goal

pub returns : goal.returns
returns c = record { list = held_assets-holding; goods = goods-holding; once = once_held; listed_units = asset_of_unit; pieces = is_piece; from_lists = holding_of_list }
