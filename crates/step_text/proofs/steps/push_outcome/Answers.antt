use Rattle.std.proofs.Common.{append_assoc}
use Rattle.step_text.proofs.steps.push_outcome.Goals as goal

pub returns-in-Incomplete : goal.returns-in-Incomplete
returns-in-Incomplete c = rw c.in-Incomplete.is (simp append_assoc (simp append_assoc at c.write.ensures.bytes))
