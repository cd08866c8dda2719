use Rattle.law_steps.proofs.Admitting.{admitted_shape}
use Rattle.law_steps.proofs.shapes.law_of_admitted_messages.Goals as goal

pub returns : goal.returns
returns c = λ here there program cargo rules origin credit queries a s e. admitted_shape here there cargo rules origin credit queries program s a e
