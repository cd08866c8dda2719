use Rattle.network_steps.proofs.Keeping.{exec_keeps, deliver_keeps, claim_keeps}
use Rattle.network_steps.proofs.laws.law_of_constant_settings.Goals as goal

pub returns : goal.returns
returns c = record { exec = exec_keeps; deliver = deliver_keeps; claim = claim_keeps }
