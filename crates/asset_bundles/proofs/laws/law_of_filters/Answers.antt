use Rattle.asset_bundles.proofs.Lemmas.{Taken-within, left_and_taken}
use Rattle.asset_bundles.proofs.laws.law_of_filters.Goals as goal

pub returns : goal.returns
returns c = record { within = Taken-within; whole = left_and_taken }
