-- What a chain refuses to send, and what a message that is sent leaves.
use Rattle.std.specs.Prelude.{◌≡◌, ◌<◌, true, ℕ, ◌+◌, ◌-◌, ◌^◌, min, nat_lt, nat_le, ◌&&◌, Bool, if◌then◌else◌, List, [], ◌∷◌, ◌++◌, length, find, Option, Some, None}
use Rattle.std.specs.List.{AllByRecursion}
use Rattle.std.specs.Option.{option_map_or}
use Rattle.xcm_program.specs.Conversions.{is_convertible, HasAmounts}
use Rattle.locations.specs.declared.relative.Location.{Location}
use Rattle.operands.specs.declared.error.XcmError.{XcmError}
use Rattle.operands.specs.declared.error.XcmError.TheVariants as error
use Rattle.asset_lists.specs.declared.units.Asset.{Asset}
use Rattle.asset_bundles.specs.declared.shipment.Way.{Way}
use Rattle.xcm_program.specs.declared.instruction.Instruction.{Instruction, roll-Instruction}
use Rattle.xcm_program.specs.declared.instruction.Instruction.TheOpen.{Instruction-F}
use Rattle.xcm_program.specs.Measure.{deep_count, depth}
use Rattle.xcm_format.specs.Messages.{message}
use Rattle.trust_tables.specs.Trust.{is_location_of}
use Rattle.plain_lists.specs.Firsts.{change_first}
use Rattle.channel_parts.specs.declared.cargo.Cargo.{Cargo}
use Rattle.channel_parts.specs.Channels.{Outgoing, with_waiting}
use Rattle.exec_base.specs.declared.event.Event.{Event}
use Rattle.exec_base.specs.Part.{ChainPart}

-- refused with e where the test fails, else what is asked next decides
abbrev pub unless : Bool → XcmError → Option XcmError → Option XcmError
unless ok e next = if ok then next else Some e

-- the first refusal
abbrev pub or_else : Option XcmError → Option XcmError → Option XcmError
or_else None next = next
or_else (Some e) next = Some e

-- ---- the channel
abbrev pub leads_to_location : ChainPart → Location → Outgoing → Bool
leads_to_location p dest c = is_location_of p.site.chain c.channel.to dest

abbrev pub channel_to_location : ChainPart → Location → Option Outgoing
channel_to_location p dest = find (leads_to_location p dest) p.channels

-- within all limits of a message, spelled in the channel's version
abbrev pub is_sendable : Outgoing → List Instruction → Bool
is_sendable c program = nat_le (deep_count program) 100 && (nat_le (depth program) 8 && nat_le (length (message c.channel.version program)) (min 65536 c.channel.max_size))

abbrev pub channel_refusal : Option Outgoing → Bool → List Instruction → Option XcmError
channel_refusal None few program = Some error.Unroutable
channel_refusal (Some c) few program = unless (few && is_sendable c program) error.ExceedsMaxMessageSize (unless (nat_lt (length c.queue) c.channel.capacity) error.Transport None)

-- why a program isn't sent. `few`: no list in it has more than 20 assets
unfoldable pub send_refusal : ChainPart → Location → Bool → List Instruction → Option XcmError
send_refusal p dest few program = channel_refusal (channel_to_location p dest) few program

-- the number that the next message gets; it saturates at 2^64-1
unfoldable pub number_to : ChainPart → Location → ℕ
number_to p dest = option_map_or (λ (c : Outgoing). c.next) (channel_to_location p dest) 0

abbrev pub sent_event : ChainPart → Option Outgoing → List Event
sent_event p None = []
sent_event p (Some c) = Event.Sent p.site.chain c.channel.to c.next ∷ []

-- the message is the last in its channel
unfoldable pub sent : ChainPart → Location → List Instruction → Cargo → ChainPart
sent p dest program cargo =
    record p { channels = change_first (leads_to_location p dest) (with_waiting program cargo) p.channels; pending_events = p.pending_events ++ sent_event p (channel_to_location p dest) }

-- ---- the programs

-- what a program must be that is sent with two instructions before it: both versions can say it, no amount is 0, and it isn't too large
-- to be counted
pub record IsForwardable (program : List Instruction) : Type 0 where
  pub few : deep_count program < 2 ^ 32 - 2
  pub named : is_convertible program ≡ true
  pub amounts : AllByRecursion HasAmounts program

abbrev pub led_by : Instruction-F Instruction → List Instruction → List Instruction
led_by first xcm = roll-Instruction first ∷ roll-Instruction Instruction-F.ClearOrigin ∷ xcm

abbrev pub deposit_program : List Asset → List Instruction → List Instruction
deposit_program list xcm = led_by (Instruction-F.ReserveAssetDeposited list) xcm

abbrev pub away_program : Way → List Asset → List Instruction → List Instruction
away_program Way.Withdrawal list xcm = led_by (Instruction-F.WithdrawAsset list) xcm
away_program Way.Teleport list xcm = led_by (Instruction-F.ReceiveTeleportedAsset list) xcm

-- a program around a list that the receiver can name, or the refusal
abbrev pub listed_refusal : ChainPart → Location → (List Asset → List Instruction) → Option (List Asset) → Option XcmError
listed_refusal p dest program None = Some error.ReanchorFailed
listed_refusal p dest program (Some list) = send_refusal p dest (nat_le (length list) 20) (program list)

abbrev pub listed_program : (List Asset → List Instruction) → Option (List Asset) → List Instruction
listed_program program None = []
listed_program program (Some list) = program list

-- a program without a list, that names what the receiver can name, or the refusal
abbrev pub named_refusal : ChainPart → Location → Option (List Instruction) → Option XcmError
named_refusal p dest None = Some error.ReanchorFailed
named_refusal p dest (Some program) = send_refusal p dest true program

-- it is the last in its channel, and nothing goes with it
abbrev pub named_sent : ChainPart → Location → Option (List Instruction) → ChainPart
named_sent p dest None = p
named_sent p dest (Some program) = sent p dest program Cargo.Nothing
