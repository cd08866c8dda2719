use Rattle.std.proofs.Common.{◌∙◌, ap, sym}
use Rattle.std.specs.List.{position}
use Rattle.chain_ids.specs.Chains.{same_chain}
use Rattle.channel_parts.specs.declared.channel.Channel.{Channel}
use Rattle.channel_parts.specs.Channels.{Outgoing}
use Rattle.chain_queues.specs.Queues.{outgoing_of, leads_to}
use Rattle.chain_state.specs.PartOf.{part_of}
use Rattle.chain_net.proofs.Standing.{place_mapped}
use Rattle.chain_net.proofs.links.place_towards.Goals as goal

pub returns : goal.returns
returns c =
    let to = c.args.to in
    c.place_to.ensures ∙ sym (place_mapped outgoing_of (leads_to to) c.channels.result.now) ∙ ap (position (leads_to to)) (c.channels.ensures ∙ c.queues.ensures.channels)
    ∙ sym (place_mapped (λ (d : Outgoing). d.channel) (λ (d : Channel). same_chain d.to to) (part_of c.args.chain.now).channels)
