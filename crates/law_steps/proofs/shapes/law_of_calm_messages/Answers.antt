use Rattle.law_steps.proofs.Calm.{shape_mute}
use Rattle.law_steps.proofs.shapes.law_of_calm_messages.Goals as goal

pub returns : goal.returns
returns c = λ here there cargo rules origin a p n shape. shape_mute rules origin p here there a.program cargo shape n
