-- The positions of the channels of a network, each with two indices: its sender's among the chains, and its own among the
-- channels that lead from the sender. No step changes them. This project's own.
use Rattle.std.specs.Prelude.{ℕ, Bool, false, List, map, Option, option_map, is_some, slice_get}
use Rattle.std.specs.Option.{option_map_or, option_and_then}
use Rattle.std.specs.List.{position, filter_map}
use Rattle.chain_ids.specs.declared.chain.ChainId.{ChainId}
use Rattle.chain_ids.specs.Chains.{same_chain}
use Rattle.channel_parts.specs.declared.channel.Channel.{Channel}
use Rattle.channel_parts.specs.Channels.{Outgoing}
use Rattle.chain_queues.specs.Queues.{oldest}
use Rattle.network_spec.specs.declared.network.ChannelSpec.{ChannelSpec}
use Rattle.chain_state.specs.declared.state.ChainState.{ChainState}
use Rattle.chain_state.specs.PartOf.{part_of}
use Rattle.chain_net.specs.declared.links.Link.{Link}

-- the channels that lead from a chain, without what waits in them
abbrev pub channels_of_state : ChainState → List Channel
channels_of_state state = map (λ (c : Outgoing). c.channel) (part_of state).channels

-- the index of a chain among these
abbrev pub place_among : List ChainId → ChainId → Option ℕ
place_among names chain = position (λ (name : ChainId). same_chain name chain) names

-- the index of the first of these channels that leads to the chain
abbrev pub place_towards : ChainId → List Channel → Option ℕ
place_towards to channels = position (λ (c : Channel). same_chain c.to to) channels

-- a channel of the document among those that lead from its sender; None where none of them leads where it does
abbrev pub link_at : ChannelSpec → ℕ → List Channel → Option Link
link_at entry sender channels =
    option_map (λ (channel : ℕ). record { from = entry.from; to = entry.channel.to; sender = sender; channel = channel }) (place_towards entry.channel.to channels)

-- its position; None where it doesn't lead from one of these chains to another
abbrev pub link_of : List ChainId → List ChainState → ChannelSpec → Option Link
link_of names states entry =
    option_and_then (λ (sender : ℕ). option_and_then (λ (receiver : ℕ). option_and_then (λ (state : ChainState). link_at entry sender (channels_of_state state))
    (slice_get states sender)) (place_among names entry.channel.to)) (place_among names entry.from)

-- their positions, but for those that don't
abbrev pub found_links : List ChainId → List ChainState → List ChannelSpec → List Link
found_links names states entries = filter_map (link_of names states) entries

-- whether a message waits where the channel is
abbrev pub waits_at : List ChainState → Link → Bool
waits_at states link =
    option_map_or (λ (state : ChainState). option_map_or (λ (c : Outgoing). is_some (oldest c)) (slice_get (part_of state).channels link.channel) false) (slice_get states link.sender) false
