use Rattle.line_serving.proofs.Gathering.{hands_directly, hands_nothing}
use Rattle.line_serving.proofs.lines.hand_line.Goals as goal

pub returns-in-Ok-clause-run : goal.returns-in-Ok-clause-run
returns-in-Ok-clause-run g c = hands_directly _ _ _ _ _ _ _ _ c.take_line.result c.in-Ok.ensures.empty c.in-Ok.ensures.bytes c.take_line.ensures.run

pub returns-in-Err-clause-run : goal.returns-in-Err-clause-run
returns-in-Err-clause-run g c = hands_nothing _ _ _ _ _ c.in-Err.ensures.bytes.0 _ _ c.in-Err.ensures.bytes.1 c.in-Err.ensures.bytes.2
