use Rattle.law_nets.proofs.Pasts.{opened, stepped, known}
use Rattle.law_nets.proofs.laws.law_of_pasts_through_steps.Goals as goal

pub returns : goal.returns
returns c = record { opened = opened; stepped = stepped; known = known }
