use Rattle.law_authority.proofs.Runs.{reached_below}
use Rattle.law_authority.proofs.Messages.{cleared}
use Rattle.law_authority.proofs.laws.law_of_origin_registers.Goals as goal

pub returns : goal.returns
returns c = record {
  reached = reached_below;
  cleared = λ here there cargo rules origin a p n part place x behind m shape e. cleared rules origin p here there cargo a n part place x behind m shape e;
}
