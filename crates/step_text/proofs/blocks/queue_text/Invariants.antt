use Rattle.std.proofs.Common.{◌≡◌, take, flat_map, string_bytes}
use Rattle.step_text.specs.Blocks.{queued_line}
use Rattle.step_text.proofs.blocks.queue_text.Given as goal

abbrev pub invariant-loop-place : goal.invariant-loop-place
invariant-loop-place l = string_bytes l.text ≡ flat_map (queued_line l.from l.queue.channel.to) (take l.place l.queue.waiting.items)
