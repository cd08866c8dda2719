use Rattle.barriers.proofs.Wording.{allows_says, leaves, admitted, first, change}
use Rattle.barriers.proofs.laws.law_of_barriers.Goals as goal

pub returns-clause-allows : goal.returns-clause-allows
returns-clause-allows c = allows_says

pub returns-clause-leaves : goal.returns-clause-leaves
returns-clause-leaves c = leaves

pub returns-clause-admitted : goal.returns-clause-admitted
returns-clause-admitted c = admitted

pub returns-clause-first : goal.returns-clause-first
returns-clause-first c = first

pub returns-clause-change : goal.returns-clause-change
returns-clause-change c = change
