-- A run at a chain from which a delivery takes a message meanwhile. This project's own rule.
use Rattle.std.specs.Prelude.{◌≡◌, Some, None}
use Rattle.chain_ids.specs.declared.chain.ChainId.{ChainId}
use Rattle.asset_bundles.specs.Bundles.{Bundle}
use Rattle.channel_parts.specs.Channels.{Outgoing}
use Rattle.chain_queues.specs.Queues.{channel_to, oldest}
use Rattle.exec_base.specs.Part.{ChainPart}
use Rattle.network_steps.specs.Acting.{Acted, booking_lost}
use Rattle.network_steps.specs.Steps.{without_message}

-- the chain without the oldest message of its channel to that one, and with what is lost of a teleport booked
abbrev pub beside : ChainId → Bundle → ChainPart → ChainPart
beside to lost p = booking_lost lost (without_message to p)

-- a message waits in its channel to that one, if it has such a channel
abbrev pub IsNotEmpty : ChainId → ChainPart → Type 0
IsNotEmpty to p = (c : Outgoing) → channel_to to p.channels ≡ Some c → oldest c ≡ None → ⊥

-- a program that ran beside a delivery came to the same, and took and left the same cargo
pub record RanBeside (to : ChainId) (lost : Bundle) (alone : Acted) (ran : Acted) : Type 0 where
  pub outcome : ran.outcome ≡ alone.outcome
  pub left : ran.left ≡ alone.left
  pub part : ran.part ≡ beside to lost alone.part
