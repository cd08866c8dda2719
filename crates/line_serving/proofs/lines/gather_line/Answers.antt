use Rattle.std.proofs.Common.{◌∙◌, [], false, ap, Ok}
use Rattle.line_serving.proofs.Gathering.{hands_some, hands_part, hands_over, hands_err}
use Rattle.line_serving.proofs.lines.gather_line.Goals as goal

pub returns-in-Ok-clause-run : goal.returns-in-Ok-clause-run
returns-in-Ok-clause-run g c =
    hands_some _ _ (false, []) _ c.take_line.new.out.bytes.items _ _ c.take_line.result c.take_line.ensures.run c.in-Ok.ensures.bytes.0 _ (c.in-Ok-None.is ∙ ap Ok c.in-Ok-None.field-0-is) c.in-Ok.ensures.bytes.1 c.in-Ok.ensures.bytes.2

pub returns-in-Err-turn-clause-run : goal.returns-in-Err-turn-clause-run
returns-in-Err-turn-clause-run g c =
    hands_part _ _ (false, []) _ c.take_line.new.out.bytes.items _ _ c.take_line.result c.take_line.ensures.run c.in-Err-turn.ensures.bytes.0 _ c.in-Err-turn.ensures.bytes.1 c.in-Err-turn.ensures.bytes.2

pub returns-in-Ok-Some-clause-run : goal.returns-in-Ok-Some-clause-run
returns-in-Ok-Some-clause-run g c =
    hands_over _ _ (false, []) _ c.take_line.new.out.bytes.items _ _ c.take_line.result c.take_line.ensures.run _ _ _ (c.in-Ok-Some.is ∙ ap Ok c.in-Ok-Some.field-0-is) c.ends.ensures.run

pub returns-in-Err-clause-run : goal.returns-in-Err-clause-run
returns-in-Err-clause-run g c =
    hands_err _ _ (false, []) _ c.take_line.new.out.bytes.items _ _ c.take_line.result c.take_line.ensures.run _ c.hand_on.result _ c.hand_on.ensures.bytes
