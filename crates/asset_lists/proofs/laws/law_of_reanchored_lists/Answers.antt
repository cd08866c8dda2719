use Rattle.asset_lists.proofs.Lemmas.{all_named, reanchored_list_is, reanchored_list_moves, no_reanchored_list}
use Rattle.asset_lists.proofs.laws.law_of_reanchored_lists.Goals as goal

pub returns-clause-list : goal.returns-clause-list
returns-clause-list c = λ all new moved. moved.list

pub returns-clause-named : goal.returns-clause-named
returns-clause-named c = all_named

pub returns-clause-computed : goal.returns-clause-computed
returns-clause-computed c = reanchored_list_is

pub returns-clause-moved : goal.returns-clause-moved
returns-clause-moved c = reanchored_list_moves

pub returns-clause-refused : goal.returns-clause-refused
returns-clause-refused c = no_reanchored_list
