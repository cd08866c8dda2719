use Rattle.std.proofs.Common.{rules}
use Rattle.test_codec.proofs.Examples.{clears_more}
use Rattle.test_codec.proofs.messages.clears.Goals as goal

pub loop-preserved : goal.loop-preserved
loop-preserved c = rw c.in_ok-push.ensures.items (clears_more _ c.loop.invariant.0, search rules)
