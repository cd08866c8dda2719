use Rattle.exec_rules.proofs.Origins.{without_origin}
use Rattle.exec_rules.proofs.laws.law_of_origins.Goals as goal

pub returns : goal.returns
returns c = record { empty = without_origin }
