use Rattle.network_steps.proofs.Stillness.{exec_still, deliver_still, claim_still, exec_elsewhere, deliver_elsewhere, claim_elsewhere}
use Rattle.network_steps.proofs.laws.law_of_no_change_elsewhere.Goals as goal

pub returns : goal.returns
returns c = record {
  exec_still = exec_still;
  deliver_still = deliver_still;
  claim_still = claim_still;
  exec_elsewhere = exec_elsewhere;
  deliver_elsewhere = deliver_elsewhere;
  claim_elsewhere = claim_elsewhere;
}
