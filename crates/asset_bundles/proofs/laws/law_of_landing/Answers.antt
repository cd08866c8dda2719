use Rattle.asset_bundles.proofs.Conditions.{landed_moved, apart_moved}
use Rattle.asset_bundles.proofs.laws.law_of_landing.Goals as goal

pub returns : goal.returns
returns c = record { landed = landed_moved; apart = apart_moved }
