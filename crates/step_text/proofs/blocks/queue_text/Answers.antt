use Rattle.std.proofs.Common.{ap, ◌∙◌, arith, flat_map}
use Rattle.std.proofs.lemmas.List.{take_all}
use Rattle.step_text.specs.Blocks.{queued_line}
use Rattle.step_text.proofs.ChannelLines.{channel_is}
use Rattle.step_text.proofs.blocks.queue_text.Goals as goal

pub returns-clause-channel : goal.returns-clause-channel
returns-clause-channel c =
    c.loop-place.invariant ∙ ap (flat_map (queued_line c.args.from c.args.queue.now.channel.to)) (take_all c.loop-place.place c.args.queue.now.waiting.items (omega arith))
    ∙ channel_is c.law_of_queued.ensures c.args.from c.args.queue.now
