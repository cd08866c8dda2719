use Rattle.std.proofs.Common.{◌≡◌, map}
use Rattle.channel_parts.specs.Channels.{opened}
use Rattle.chain_queues.specs.Queues.{outgoing_of}
use Rattle.chain_queues.proofs.queues.Queues.open.Given as goal

abbrev pub invariant-loop-channel : goal.invariant-loop-channel
invariant-loop-channel l = map outgoing_of l.queues.items ≡ map opened l.yielded
