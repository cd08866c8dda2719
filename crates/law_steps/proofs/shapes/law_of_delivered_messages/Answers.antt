use Rattle.law_steps.proofs.Worlds.{taken_is_shaped}
use Rattle.law_steps.proofs.shapes.law_of_delivered_messages.Goals as goal

pub returns : goal.returns
returns c = taken_is_shaped
