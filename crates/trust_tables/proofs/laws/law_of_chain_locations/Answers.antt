use Rattle.trust_tables.proofs.Lemmas.ChainLaws.{no_location_of_self, path_of-location_of, chain_of_one, near_location}
use Rattle.trust_tables.proofs.laws.law_of_chain_locations.Goals as goal

pub returns-clause-own : goal.returns-clause-own
returns-clause-own c = no_location_of_self

pub returns-clause-leads : goal.returns-clause-leads
returns-clause-leads c = path_of-location_of

pub returns-clause-one : goal.returns-clause-one
returns-clause-one c = chain_of_one

pub returns-clause-near : goal.returns-clause-near
returns-clause-near c = near_location
