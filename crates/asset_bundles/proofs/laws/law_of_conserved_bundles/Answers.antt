use Rattle.amounts.proofs.Lemmas.{total-difference}
use Rattle.asset_bundles.proofs.Lemmas.Bundles.{unit_keys}
use Rattle.asset_bundles.proofs.Lemmas.{joined_conserves, joined_total, given_up_total, burned_conserves, added_conserves, taken_conserves, landed_conserves}
use Rattle.asset_bundles.proofs.laws.law_of_conserved_bundles.Goals as goal

pub returns : goal.returns
returns c = record {
  joined = joined_conserves;
  joined_units = joined_total;
  given_up = given_up_total;
  burned = burned_conserves;
  added = added_conserves;
  cut = total-difference unit_keys;
  taken = taken_conserves;
  landed = landed_conserves;
}
