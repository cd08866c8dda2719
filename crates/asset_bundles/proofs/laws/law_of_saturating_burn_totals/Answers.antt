use Rattle.asset_bundles.proofs.Lemmas.{amount-Booked, booked_again, booked_nothing, booked_below, booked_totals, booked_least}
use Rattle.asset_bundles.proofs.laws.law_of_saturating_burn_totals.Goals as goal

pub returns : goal.returns
returns c = record { rises = amount-Booked; again = booked_again; nothing = booked_nothing; below = booked_below; totals = booked_totals; saturates = booked_least }
