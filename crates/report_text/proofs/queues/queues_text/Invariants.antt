use Rattle.std.proofs.Common.{◌≡◌, take, flat_map, map, string_bytes}
use Rattle.network_spec.specs.declared.network.ChannelSpec.{ChannelSpec}
use Rattle.chain_state.specs.PartOf.{part_of}
use Rattle.step_text.specs.Blocks.{link_text}
use Rattle.report_text.proofs.queues.queues_text.Given as goal

abbrev pub invariant-loop-place : goal.invariant-loop-place
invariant-loop-place l = string_bytes l.text ≡ flat_map (λ (c : ChannelSpec). link_text (map part_of l.chains) (c.from, c.channel.to)) (take l.place l.channels)
