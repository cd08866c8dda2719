use Rattle.trust_tables.proofs.Lemmas.TrustLaws.{is_row_of_says, row_at-position, is_reserve_says, is_partner_says, row_found}
use Rattle.trust_tables.proofs.laws.law_of_exact_trust_tests.Goals as goal

pub returns-clause-row : goal.returns-clause-row
returns-clause-row c = is_row_of_says

pub returns-clause-first : goal.returns-clause-first
returns-clause-first c = row_at-position

pub returns-clause-reserve : goal.returns-clause-reserve
returns-clause-reserve c = is_reserve_says

pub returns-clause-partner : goal.returns-clause-partner
returns-clause-partner c = is_partner_says

pub returns-clause-found : goal.returns-clause-found
returns-clause-found c = row_found
