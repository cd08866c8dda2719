use Rattle.asset_lists.proofs.Lemmas.{inserted_list, inserted_more}
use Rattle.asset_lists.proofs.laws.law_of_insertion.Goals as goal

pub returns-clause-list : goal.returns-clause-list
returns-clause-list c = inserted_list

pub returns-clause-more : goal.returns-clause-more
returns-clause-more c = inserted_more
