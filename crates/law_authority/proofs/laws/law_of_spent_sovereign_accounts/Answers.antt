use Rattle.law_authority.proofs.Sovereigns.{exec_spares, deliver_speaks}
use Rattle.law_authority.proofs.laws.law_of_spent_sovereign_accounts.Goals as goal

pub returns : goal.returns
returns c = record { exec = exec_spares; deliver = deliver_speaks c.law_of_sovereign_accounts.ensures.account }
