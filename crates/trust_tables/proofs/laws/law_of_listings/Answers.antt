use Rattle.trust_tables.proofs.Lemmas.TrustLaws.{listing_says, position_listed}
use Rattle.trust_tables.proofs.laws.law_of_listings.Goals as goal

pub returns-clause-listed : goal.returns-clause-listed
returns-clause-listed c = listing_says

pub returns-clause-place : goal.returns-clause-place
returns-clause-place c = position_listed
