use Rattle.std.proofs.Common.{◌≡◌, ◌∙◌, ap, arith, Ok}
use Rattle.step_text.specs.Blocks.{queued_line}
use Rattle.xcm_cli.proofs.Pieces.{next_piece, fails_at, refused_at}
use Rattle.xcm_cli.proofs.queues.write_waiting.Goals as goal

pub loop-place-preserved : goal.loop-place-preserved
loop-place-preserved g c =
    next_piece (queued_line c.args.from c.args.queue.now.channel.to) c.args.queue.now.waiting.items c.loop-place.place c.index.result.now (omega arith) c.index.ensures
    _ _ _ _ _ _ c.loop-place.invariant c.write_message.result c.write_message.ensures (c.in-Ok-None.is ∙ ap Ok c.in-Ok-None.field-0-is)

pub returns-in-Ok-Some : goal.returns-in-Ok-Some
returns-in-Ok-Some g c =
    fails_at (queued_line c.args.from c.args.queue.now.channel.to) c.args.queue.now.waiting.items c.loop-place.place c.index.result.now (omega arith) c.index.ensures
    _ _ _ _ _ _ c.loop-place.invariant c.write_message.result c.write_message.ensures c.in-Ok-Some.status (c.in-Ok-Some.is ∙ ap Ok c.in-Ok-Some.field-0-is)

pub returns-in-Err : goal.returns-in-Err
returns-in-Err g c =
    refused_at (queued_line c.args.from c.args.queue.now.channel.to) c.args.queue.now.waiting.items c.loop-place.place c.index.result.now (omega arith) c.index.ensures
    _ _ _ _ _ _ c.loop-place.invariant c.write_message.result c.write_message.ensures c.in-Err.refused
