-- What a step leaves where memory is refused. This project's own rule.
use Rattle.std.specs.Prelude.{◌≡◌, ◌⊎◌, ℕ, false, List, Some, Ok, slice_get, slice_set}
use Rattle.chain_ids.specs.declared.chain.ChainId.{ChainId}
use Rattle.weight_trader.specs.Purchases.{no_weight}
use Rattle.xcm_program.specs.declared.instruction.Instruction.{Instruction}
use Rattle.versioned_xcm.specs.Reading.{message_of}
use Rattle.channel_parts.specs.declared.cargo.Cargo.{Cargo}
use Rattle.channel_parts.specs.declared.cargo.Cargo.TheVariants.{Nothing}
use Rattle.channel_parts.specs.Channels.{Waiting}
use Rattle.chain_queues.specs.Queues.{oldest_to}
use Rattle.exec_base.specs.declared.event.Event.{Event}
use Rattle.exec_base.specs.Part.{ChainPart}
use Rattle.exec_base.specs.Host.{told}
use Rattle.exec_rules.specs.declared.rules.ChainRules.{ChainRules}
use Rattle.exec_rules.specs.Execution.{executed, IsAbandoned}
use Rattle.network_steps.specs.Worlds.{Member, World, place_of, with_part}
use Rattle.network_steps.specs.Acting.{begun, ended, caller, lost_of, booking_lost}
use Rattle.asset_pools.specs.Exchanges.{is_pool_account}
use Rattle.network_steps.specs.Steps.{is_sovereign, name_at, without_message, Link, next_channel, deliveries, world_behind}

-- ---- local executions

-- an execution for a local account was abandoned, and ended
abbrev pub IsStoppedHere : ChainRules → List ℕ → List Instruction → ChainPart → ChainPart → Type 0
IsStoppedHere rules account program before now =
    (q : ChainPart) × IsAbandoned rules (caller account) rules.limit program (begun before.site.chain Nothing before) q × (now ≡ ended q)

-- the chain that was executed on, where no other chain has changed
pub record ExecStopsAt (w : World) (chain : ChainId) (account bytes : List ℕ) (now : World) : Type 0 where
  pub place : ℕ
  pub member : Member
  pub program : List Instruction
  pub found : place_of w chain ≡ Some place
  pub is : slice_get w place ≡ Some member
  pub local : is_sovereign account ≡ false
  pub own : is_pool_account member.part.pools account ≡ false
  pub read : message_of bytes ≡ Ok program
  pub part : ChainPart
  pub stopped : IsStoppedHere member.rules account program member.part part
  pub rest : now ≡ slice_set w place (with_part part member)

-- the message wasn't read, or its execution was abandoned
abbrev pub ExecStops : World → ChainId → List ℕ → List ℕ → World → Type 0
ExecStops w chain account bytes now = (now ≡ w) ⊎ ExecStopsAt w chain account bytes now

-- ---- deliveries

-- a chain as a message runs on it
abbrev pub arrived : ChainId → ChainPart → Waiting → ChainPart
arrived from p message = told (begun from message.cargo p) (Event.Message from p.site.chain message.number)

-- how far the receiver of a message was: it was neither read nor told, or its execution was abandoned, or it ran and its loss wasn't told
abbrev pub StandsAt : ChainRules → ChainId → Waiting → ChainPart → ChainPart → Type 0
StandsAt rules from message before q =
    (q ≡ begun from message.cargo before)
    ⊎ IsAbandoned rules (name_at before.site.chain from) no_weight message.program (arrived from before message) q
    ⊎ (q ≡ (executed rules (name_at before.site.chain from) no_weight message.program (arrived from before message)).1)

-- the receiver's step was ended, and what was left of the cargo
abbrev pub IsStoppedThere : ChainRules → ChainId → Waiting → ChainPart → ChainPart → Cargo → Type 0
IsStoppedThere rules from message before now left = (q : ChainPart) × StandsAt rules from message before q × (now ≡ ended q) × (left ≡ q.cargo.cargo)

-- the message left its channel, its receiver stopped, and the sender booked what was lost; no other chain has changed
pub record DeliverStops (w : World) (from to : ChainId) (now : World) : Type 0 where
  pub sender_place : ℕ
  pub receiver_place : ℕ
  pub sender : Member
  pub receiver : Member
  pub message : Waiting
  pub sender_found : place_of w from ≡ Some sender_place
  pub receiver_found : place_of w to ≡ Some receiver_place
  pub is_sender : slice_get w sender_place ≡ Some sender
  pub is_receiver : slice_get w receiver_place ≡ Some receiver
  pub waits : oldest_to to sender.part.channels ≡ Some message
  pub part : ChainPart
  pub left : Cargo
  pub stopped : IsStoppedThere receiver.rules from message receiver.part part left
  pub rest : now ≡ slice_set (slice_set w sender_place (with_part (booking_lost (lost_of left) (without_message to sender.part)) sender)) receiver_place (with_part part receiver)

-- ---- drains

-- so many deliveries were made, and the next one stopped
pub record DrainStops (order : List Link) (w now : World) : Type 0 where
  pub made : ℕ
  pub link : Link
  pub next : next_channel order (world_behind w (deliveries made order w)) ≡ Some link
  pub stopped : DeliverStops (world_behind w (deliveries made order w)) link.0 link.1 now
