use Rattle.std.proofs.Common.{◌≡◌, ◌∙◌, ap, subst, IfOk, string_bytes}
use Rattle.network_spec.specs.declared.network.ChannelSpec.{ChannelSpec}
use Rattle.network_steps.specs.Genesis.{order_of}
use Rattle.chain_net.specs.Nets.{world_of}
use Rattle.report_blocks.specs.Reads as reads
use Rattle.report_blocks.proofs.Reading.{queues_are}
use Rattle.report_blocks.proofs.reads.queues_block.Goals as goal

pub returns : goal.returns
returns c =
    subst (λ t. IfOk c.queues_text.result (λ text. string_bytes text ≡ t))
    (queues_are (λ (d : ChannelSpec). (d.from, d.channel.to)) c.items.result.now _ (world_of c.args.net.now) c.chains.ensures
    ∙ ap (λ s. reads.queues_block s (world_of c.args.net.now)) (ap (λ cs. order_of (record c.spec.result.now { channels = cs })) c.items.ensures ∙ ap order_of c.spec.ensures))
    c.queues_text.ensures
