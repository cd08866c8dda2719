use Rattle.std.proofs.Common.{◌≡◌, ◌∙◌, ap}
use Rattle.network_spec.specs.declared.network.ChannelSpec.{ChannelSpec}
use Rattle.network_steps.specs.Genesis.{order_of}
use Rattle.chain_net.specs.Nets.{world_of}
use Rattle.report_blocks.specs.Reads.{queues_block}
use Rattle.xcm_cli.proofs.Pieces.{pieces_as, queues_are}
use Rattle.xcm_cli.proofs.queues.write_channels.Goals as goal

pub returns : goal.returns
returns g c =
    pieces_as _ _ _ _ _ _ _
    (queues_are (λ (d : ChannelSpec). (d.from, d.channel.to)) c.items.result.now _ (world_of c.args.net.now) c.chains.ensures
    ∙ ap (λ s. queues_block s (world_of c.args.net.now)) (ap (λ cs. order_of (record c.spec.result.now { channels = cs })) c.items.ensures ∙ ap order_of c.spec.ensures))
    c.write_links.ensures
