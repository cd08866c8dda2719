use Rattle.std.proofs.Common.{◌<◌, ◌+◌, length, arith, ltb-true}
use Rattle.line_serving.proofs.PastLimits.{past_line, past_total}
use Rattle.line_serving.proofs.limits.passes_limits.Goals as goal

pub returns-then-begun-gt-MAX_LINE-clause-over : goal.returns-then-begun-gt-MAX_LINE-clause-over
returns-then-begun-gt-MAX_LINE-clause-over c t more = past_line c.args.taken c.args.begun.now more c.requires.open c.if-begun-gt-MAX_LINE.true

pub returns-else-begun-gt-MAX_LINE-clause-over : goal.returns-else-begun-gt-MAX_LINE-clause-over
returns-else-begun-gt-MAX_LINE-clause-over c t more =
    let past : 67108864 < c.args.taken + length c.args.begun.now = ltb-true 67108864 _ t in
    past_total c.args.taken c.args.begun.now more c.requires.open (omega (arith, c.requires.within)) past
