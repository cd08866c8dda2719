use Rattle.std.proofs.Common.{take, flat_map, Ok, None}
use Rattle.std.specs.declared.alloc.AllocError.{AllocError}
use Rattle.step_text.specs.Blocks.{queued_line}
use Rattle.xcm_cli.specs.Pieces.{WritesInPieces}
use Rattle.xcm_cli.proofs.queues.write_waiting.Given as goal

abbrev pub invariant-loop-place : goal.invariant-loop-place
invariant-loop-place g l = WritesInPieces {E = AllocError} (flat_map (queued_line l.from l.queue.channel.to) (take l.place l.queue.waiting.items)) (g.O.Sink.written l.initial.out) (g.O.Sink.written l.out) (g.O.Sink.faults l.initial.out) (g.O.Sink.faults l.out) (Ok None)
