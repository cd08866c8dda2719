use Rattle.std.proofs.Common.{refl}
use Rattle.xcm_cli.proofs.Advance.{at_start}
use Rattle.xcm_cli.proofs.phase.Session.new.Goals as goal

pub returns-clause-start : goal.returns-clause-start
returns-clause-start c at_end lines = at_start _ c.new.result at_end lines refl c.new.ensures.items refl refl
