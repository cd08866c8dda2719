-- A message that a channel takes, and the program around assets that are sent. This project's own.
use Rattle.std.specs.Prelude.{◌≡◌, ℕ, true, List, length, Option, Some, None, Ok, ⊤}
use Rattle.locations.specs.declared.relative.Location.{Location}
use Rattle.chain_ids.specs.declared.chain.ChainId.{ChainId}
use Rattle.operands.specs.declared.error.XcmError.{XcmError}
use Rattle.operands.specs.declared.error.XcmError.TheVariants as error
use Rattle.asset_lists.specs.declared.units.Asset.{Asset}
use Rattle.asset_bundles.specs.declared.shipment.Way.{Way}
use Rattle.xcm_program.specs.declared.instruction.Instruction.{Instruction}
use Rattle.xcm_program.specs.declared.instruction.Instruction.TheOpen.{Instruction-F}
use Rattle.channel_parts.specs.Channels.{Outgoing}
use Rattle.versioned_xcm.specs.Reading.{message_of}
use Rattle.chain_queues.specs.declared.faults.PushFault.{PushFault}
use Rattle.chain_queues.specs.declared.faults.PushFault.TheVariants.{NoChannel, TooLarge, Full}
use Rattle.chain_queues.specs.Decoded.{is_spelled_in}
use Rattle.chain_queues.specs.Queues.{push_refusal}
use Rattle.exec_base.specs.declared.faults.HostFault.{HostFault}
use Rattle.exec_base.specs.declared.faults.HostFault.TheVariants.{Xcm, Memory}
use Rattle.exec_base.specs.Part.{ChainPart}
use Rattle.exec_base.specs.Sending.{channel_to_location, channel_refusal, led_by}
use Rattle.chain_state.specs.declared.send.arrivals.ArrivalKind.{ArrivalKind}

-- the error of a message that its channel doesn't take
abbrev pub push_error : PushFault → XcmError
push_error NoChannel = error.Unroutable
push_error TooLarge = error.ExceedsMaxMessageSize
push_error Full = error.Transport

-- the bytes mean the program and are of the channel's version, the rule doesn't refuse it, and the channel takes them
pub record IsAccepted (channel : Outgoing) (program : List Instruction) (to : ChainId) (bytes : List ℕ) : Type 0 where
  pub leads : channel.channel.to ≡ to
  pub meaning : message_of bytes ≡ Ok program
  pub spelled : is_spelled_in channel.channel.version bytes ≡ true
  pub unrefused : channel_refusal (Some channel) true program ≡ None
  pub free : push_refusal (length bytes) (Some channel) ≡ None

-- the channel that leads there accepts them
pub record IsAcceptedByChannel (p : ChainPart) (dest : Location) (program : List Instruction) (to : ChainId) (bytes : List ℕ) : Type 0 where
  pub channel : Outgoing
  pub found : channel_to_location p dest ≡ Some channel
  pub accepted : IsAccepted channel program to bytes

-- the rule refuses with the error; memory may be refused always
abbrev pub IsSendFault : Option XcmError → HostFault → Type 0
IsSendFault refusal (Xcm e) = refusal ≡ Some e
IsSendFault refusal Memory = ⊤

-- ---- the program around assets

-- the instruction by which they arrive
abbrev pub first_by : ArrivalKind → List Asset → Instruction-F Instruction
first_by ArrivalKind.Withdrawal list = Instruction-F.WithdrawAsset list
first_by ArrivalKind.Deposit list = Instruction-F.ReserveAssetDeposited list
first_by ArrivalKind.Teleport list = Instruction-F.ReceiveTeleportedAsset list

abbrev pub program_by : ArrivalKind → List Instruction → List Asset → List Instruction
program_by call xcm list = led_by (first_by call list) xcm

abbrev pub call_by : Way → ArrivalKind
call_by Way.Withdrawal = ArrivalKind.Withdrawal
call_by Way.Teleport = ArrivalKind.Teleport
