-- The channels of a chain as lists of messages: a message is put last, and the oldest is taken first. This project's own rule.
use Rattle.std.specs.Prelude.{ℕ, ◌==◌, nat_lt, Bool, true, if◌then◌else◌, List, [], ◌∷◌, length, map, drop, find, Option, Some, None}
use Rattle.std.specs.Option.{option_and_then}
use Rattle.plain_lists.specs.Firsts.{change_first}
use Rattle.chain_ids.specs.declared.chain.ChainId.{ChainId}
use Rattle.chain_ids.specs.Chains.{same_chain}
use Rattle.xcm_program.specs.declared.instruction.Instruction.{Instruction}
use Rattle.channel_parts.specs.declared.cargo.Cargo.{Cargo}
use Rattle.channel_parts.specs.Channels.{Waiting, Outgoing, with_waiting}
use Rattle.versioned_xcm.specs.Reading.{message_of}
use Rattle.chain_queues.specs.declared.faults.PushFault.{PushFault}
use Rattle.chain_queues.specs.declared.faults.PushFault.TheVariants.{NoChannel, TooLarge, Full}
use Rattle.chain_queues.specs.declared.queues.Queued.{Queued}
use Rattle.chain_queues.specs.declared.queues.Queue.{Queue}
use Rattle.chain_queues.specs.declared.queues.Queues.{Queues}
use Rattle.chain_queues.specs.Decoded.{program_read, is_spelled_in}

-- ---- what the queues mean

abbrev pub waiting_of : Queued → Waiting
waiting_of q = record { number = q.number; program = program_read (message_of q.bytes.items); cargo = q.cargo }

abbrev pub outgoing_of : Queue → Outgoing
outgoing_of q = record { channel = q.channel; next = q.next; queue = map waiting_of q.waiting.items }

abbrev pub channels_of : Queues → List Outgoing
channels_of queues = map outgoing_of queues.list.items

-- ---- the channel to a chain: the first that leads there

abbrev pub leads_to : ChainId → Outgoing → Bool
leads_to to c = same_chain c.channel.to to

abbrev pub is_led_to : ChainId → Queue → Bool
is_led_to to q = same_chain q.channel.to to

abbrev pub channel_to : ChainId → List Outgoing → Option Outgoing
channel_to to channels = find (leads_to to) channels

-- ---- putting a message in

-- whether the bytes begin with the byte of the channel's version; where there is no channel, any do
abbrev pub is_spelled_for : Option Outgoing → List ℕ → Bool
is_spelled_for None bytes = true
is_spelled_for (Some c) bytes = is_spelled_in c.channel.version bytes

-- why a channel doesn't take a message of so many bytes; None where it does
abbrev pub push_refusal : ℕ → Option Outgoing → Option PushFault
push_refusal size None = Some NoChannel
push_refusal size (Some c) = if nat_lt c.channel.max_size size then Some TooLarge else (if length c.queue == c.channel.capacity then Some Full else None)

abbrev pub pushed : ChainId → List Instruction → Cargo → List Outgoing → List Outgoing
pushed to program cargo channels = change_first (leads_to to) (with_waiting program cargo) channels

-- ---- taking one out

abbrev pub first_of : List Waiting → Option Waiting
first_of [] = None
first_of (w ∷ more) = Some w

abbrev pub oldest : Outgoing → Option Waiting
oldest c = first_of c.queue

abbrev pub oldest_to : ChainId → List Outgoing → Option Waiting
oldest_to to channels = option_and_then oldest (channel_to to channels)

abbrev pub without_oldest : Outgoing → Outgoing
without_oldest c = record c { queue = drop 1 c.queue }

abbrev pub popped : ChainId → List Outgoing → List Outgoing
popped to channels = change_first (leads_to to) without_oldest channels
