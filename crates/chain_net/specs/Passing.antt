-- What a message leaves at its two chains, in the list of all chains. This project's own.
use Rattle.std.specs.Prelude.{◌≡◌, ℕ, List, Some, slice_get, slice_set}
use Rattle.trust_tables.specs.Trust.{listing}
use Rattle.weight_trader.specs.Purchases.{no_weight}
use Rattle.xcm_program.specs.declared.outcome.Outcome.{Outcome}
use Rattle.chain_ids.specs.declared.chain.ChainId.{ChainId}
use Rattle.channel_parts.specs.declared.cargo.Cargo.{Cargo}
use Rattle.channel_parts.specs.Channels.{Waiting}
use Rattle.exec_base.specs.Part.{ChainPart}
use Rattle.exec_rules.specs.declared.rules.ChainRules.{ChainRules}
use Rattle.network_steps.specs.Acting.{Acted, acted, lost_of, booking_lost}
use Rattle.network_steps.specs.Steps.{name_at, receiver_after}
use Rattle.chain_state.specs.declared.state.ChainState.{ChainState}
use Rattle.chain_state.specs.PartOf.{part_of}
use Rattle.chain_net.specs.Chains.{name_of}
use Rattle.chain_net.specs.Sound.{IsListedCargo, IsBetweenSteps}
use Rattle.law_nets.specs.Stops.{arrived, IsStoppedThere}

-- the chain of an index is another one
abbrev pub IsOtherChain : List ChainState → ℕ → ChainId → Type 0
IsOtherChain states place chain = (state : ChainState) → slice_get states place ≡ Some state → name_of state ≡ chain → ⊥

-- the chain of an index lists what the cargo ships
abbrev pub IsCarried : List ChainState → ℕ → Cargo → Type 0
IsCarried states place cargo = (state : ChainState) → slice_get states place ≡ Some state → IsListedCargo (listing (part_of state).rows) cargo

-- two chains instead of a sender and a receiver
pub record AreChanged (sender receiver : ℕ) (before now : List ChainState) : Type 0 where
  pub old_sender : ChainState
  pub old_receiver : ChainState
  pub new_sender : ChainState
  pub new_receiver : ChainState
  pub is_sender : slice_get before sender ≡ Some old_sender
  pub is_receiver : slice_get before receiver ≡ Some old_receiver
  pub changed : now ≡ slice_set (slice_set before sender new_sender) receiver new_receiver
  pub sender_stays : name_of new_sender ≡ name_of old_sender
  pub receiver_stays : name_of new_receiver ≡ name_of old_receiver

-- what a message did at a receiver
abbrev pub run_at : ChainRules → ChainId → Waiting → ChainPart → Acted
run_at rules from message p = acted rules (name_at p.site.chain from) no_weight message.program (arrived from p message)

-- the message ran, and what was lost of its cargo is booked and told
pub record IsPassed (rules : ChainRules) (from : ChainId) (message : Waiting) (sender receiver : ℕ) (outcome : Outcome) (before now : List ChainState) : Type 0 where
  pub both : AreChanged sender receiver before now
  pub outcome_is : outcome ≡ (run_at rules from message (part_of both.old_receiver)).outcome
  pub sender_is : part_of both.new_sender ≡ booking_lost (lost_of (run_at rules from message (part_of both.old_receiver)).left) (part_of both.old_sender)
  pub receiver_is : part_of both.new_receiver ≡ receiver_after (part_of both.old_sender) (run_at rules from message (part_of both.old_receiver))
  pub sender_between : IsBetweenSteps (part_of both.new_sender)
  pub receiver_between : IsBetweenSteps (part_of both.new_receiver)

-- memory was refused
pub record IsPassStopped (rules : ChainRules) (from : ChainId) (message : Waiting) (sender receiver : ℕ) (before now : List ChainState) : Type 0 where
  pub both : AreChanged sender receiver before now
  pub left : Cargo
  pub stopped : IsStoppedThere rules from message (part_of both.old_receiver) (part_of both.new_receiver) left
  pub sender_is : part_of both.new_sender ≡ booking_lost (lost_of left) (part_of both.old_sender)
