use Rattle.asset_bundles.proofs.Lemmas.{amount-Joined, amount-Excess, joined_whole, joined_within, excess_within, booked_within}
use Rattle.asset_bundles.proofs.laws.law_of_joins.Goals as goal

pub returns : goal.returns
returns c = record { kept = amount-Joined; rest = amount-Excess; whole = joined_whole; sum = joined_within; no_excess = excess_within; same_book = booked_within }
