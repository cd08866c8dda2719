use Rattle.asset_lists.proofs.Lemmas.{tests_lists}
use Rattle.asset_lists.proofs.laws.law_of_exact_list_test.Goals as goal

pub returns : goal.returns
returns c = tests_lists
