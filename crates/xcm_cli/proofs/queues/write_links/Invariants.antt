use Rattle.std.proofs.Common.{take, flat_map, map, Ok, None}
use Rattle.std.specs.declared.alloc.AllocError.{AllocError}
use Rattle.network_spec.specs.declared.network.ChannelSpec.{ChannelSpec}
use Rattle.chain_state.specs.PartOf.{part_of}
use Rattle.step_text.specs.Blocks.{link_text}
use Rattle.xcm_cli.specs.Pieces.{WritesInPieces}
use Rattle.xcm_cli.proofs.queues.write_links.Given as goal

abbrev pub invariant-loop-channel : goal.invariant-loop-channel
invariant-loop-channel g l =
    WritesInPieces {E = AllocError} (flat_map (λ (c : ChannelSpec). link_text (map part_of l.chains) (c.from, c.channel.to)) (take l.channel-index l.channels))
    (g.O.Sink.written l.initial.out) (g.O.Sink.written l.out) (g.O.Sink.faults l.initial.out) (g.O.Sink.faults l.out) (Ok None)
