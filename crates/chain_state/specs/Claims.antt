-- A message that the channel to a chain takes. This project's own.
use Rattle.std.specs.Prelude.{◌≡◌, List, ℕ, Option, Some}
use Rattle.xcm_program.specs.declared.instruction.Instruction.{Instruction}
use Rattle.channel_parts.specs.Channels.{Outgoing}
use Rattle.chain_state.specs.Sends.{IsAccepted}

-- the channel is there, and accepts the bytes
pub record IsClaimTaken (to_there : Option Outgoing) (program : List Instruction) (bytes : List ℕ) : Type 0 where
  pub channel : Outgoing
  pub found : to_there ≡ Some channel
  pub accepted : IsAccepted channel program channel.channel.to bytes
