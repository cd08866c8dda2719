use Rattle.std.proofs.Common.{◌≡◌, ◌∙◌, ap, map, Ok}
use Rattle.network_spec.specs.declared.network.ChannelSpec.{ChannelSpec}
use Rattle.chain_state.specs.PartOf.{part_of}
use Rattle.step_text.specs.Blocks.{link_text}
use Rattle.xcm_cli.proofs.Pieces.{next_piece, fails_at, refused_at}
use Rattle.xcm_cli.proofs.queues.write_links.Goals as goal

pub loop-channel-preserved : goal.loop-channel-preserved
loop-channel-preserved g c =
    next_piece (λ (d : ChannelSpec). link_text (map part_of c.args.chains.now) (d.from, d.channel.to)) c.args.channels.now c.loop-channel.channel-index c.channel-item.result c.loop-channel-test.true c.channel-item.is
    _ _ _ _ _ _ c.loop-channel.invariant c.write_link.result c.write_link.ensures (c.in-Ok-None.is ∙ ap Ok c.in-Ok-None.field-0-is)

pub returns-in-Ok-Some : goal.returns-in-Ok-Some
returns-in-Ok-Some g c =
    fails_at (λ (d : ChannelSpec). link_text (map part_of c.args.chains.now) (d.from, d.channel.to)) c.args.channels.now c.loop-channel.channel-index c.channel-item.result c.loop-channel-test.true c.channel-item.is
    _ _ _ _ _ _ c.loop-channel.invariant c.write_link.result c.write_link.ensures c.in-Ok-Some.status (c.in-Ok-Some.is ∙ ap Ok c.in-Ok-Some.field-0-is)

pub returns-in-Err : goal.returns-in-Err
returns-in-Err g c =
    refused_at (λ (d : ChannelSpec). link_text (map part_of c.args.chains.now) (d.from, d.channel.to)) c.args.channels.now c.loop-channel.channel-index c.channel-item.result c.loop-channel-test.true c.channel-item.is
    _ _ _ _ _ _ c.loop-channel.invariant c.write_link.result c.write_link.ensures c.in-Err.refused
