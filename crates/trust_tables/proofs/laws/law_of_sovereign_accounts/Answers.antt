use Rattle.trust_tables.proofs.Lemmas.ChainLaws.{account_of-location_of, IsSovereign-sovereign_account, sovereign_account_of_one}
use Rattle.trust_tables.proofs.laws.law_of_sovereign_accounts.Goals as goal

pub returns-clause-account : goal.returns-clause-account
returns-clause-account c = account_of-location_of

pub returns-clause-sovereign : goal.returns-clause-sovereign
returns-clause-sovereign c = IsSovereign-sovereign_account

pub returns-clause-one : goal.returns-clause-one
returns-clause-one c = sovereign_account_of_one
