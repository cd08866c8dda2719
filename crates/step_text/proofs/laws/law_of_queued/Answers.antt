use Rattle.step_text.proofs.Queued.{queued_is}
use Rattle.step_text.proofs.laws.law_of_queued.Goals as goal

pub returns : goal.returns
returns c = queued_is c.law_of_messages.ensures
