use Rattle.law_steps.proofs.Worlds.{nothing_shaped, exec_shaped, deliver_shaped, claim_shaped, after_shaped, worlds_shaped}
use Rattle.law_steps.proofs.shapes.law_of_seven_message_shapes.Goals as goal

pub returns : goal.returns
returns c = record { first = nothing_shaped; exec = exec_shaped; deliver = deliver_shaped; claim = claim_shaped; after = after_shaped; worlds = worlds_shaped }
