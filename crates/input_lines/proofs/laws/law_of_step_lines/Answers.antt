use Rattle.input_lines.proofs.ReadBack.{read_back, deliver_back, claim_back}
use Rattle.input_lines.proofs.laws.law_of_step_lines.Goals as goal

pub returns-clause-exec : goal.returns-clause-exec
returns-clause-exec c = read_back

pub returns-clause-deliver : goal.returns-clause-deliver
returns-clause-deliver c = deliver_back

pub returns-clause-claim : goal.returns-clause-claim
returns-clause-claim c = claim_back
