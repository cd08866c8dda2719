use Rattle.step_text.proofs.ChannelLines.{channel_is}
use Rattle.step_text.proofs.laws.law_of_queue_lines.Goals as goal

pub returns : goal.returns
returns c from q = channel_is c.law_of_queued.ensures from q
