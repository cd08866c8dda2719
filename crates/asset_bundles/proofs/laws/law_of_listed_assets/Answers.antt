use Rattle.asset_bundles.proofs.Lemmas.{listed_within, listed_taken, listed_left, listed_merged, listed_joined, listed_excess, listed_none, listed_landed, listed_list}
use Rattle.asset_bundles.proofs.laws.law_of_listed_assets.Goals as goal

pub returns : goal.returns
returns c = record {
  within = listed_within;
  taken = listed_taken;
  left = listed_left;
  merged = listed_merged;
  joined = listed_joined;
  excess = listed_excess;
  no_excess = listed_none;
  landed = listed_landed;
  list = listed_list;
}
