-- No step changes which channels lead from a chain, also where memory is refused.
use Rattle.std.specs.declared.alloc.AllocError.{AllocError}
use Rattle.std.proofs.Common.{◌≡◌, ℕ, zero, suc, List, [], ◌∷◌, Some, Result, Ok, Err, ⊎_elim, refl, sym, ap, ◌∙◌, map}
use Rattle.std.specs.Prelude.{IfOk, OnOk, OnErr, Option, slice_get, slice_set}
use Rattle.chain_ids.specs.declared.chain.ChainId.{ChainId}
use Rattle.operands.specs.declared.error.XcmError.{XcmError}
use Rattle.weight_trader.specs.Purchases.{no_weight}
use Rattle.xcm_program.specs.declared.instruction.Instruction.{Instruction}
use Rattle.xcm_program.specs.declared.outcome.Outcome.{Outcome}
use Rattle.channel_parts.specs.declared.channel.Channel.{Channel}
use Rattle.channel_parts.specs.declared.cargo.Cargo.TheVariants.{Nothing}
use Rattle.channel_parts.specs.Channels.{Waiting, with_waiting}
use Rattle.chain_queues.specs.Queues.{leads_to, without_oldest}
use Rattle.exec_base.specs.declared.faults.HostFault.{HostFault}
use Rattle.exec_base.specs.declared.faults.HostFault.TheVariants.{Xcm, Memory}
use Rattle.exec_base.specs.Answers.{AnswersOrRefuses}
use Rattle.exec_base.specs.Part.{ChainPart}
use Rattle.exec_base.specs.Host.{told}
use Rattle.exec_rules.specs.declared.rules.ChainRules.{ChainRules}
use Rattle.exec_rules.specs.Execution.{executed, IsAbandoned}
use Rattle.network_steps.specs.Acting.{begun, acted, caller}
use Rattle.network_steps.specs.Fixed.{Fixed, fixed_of}
use Rattle.network_steps.proofs.Lemmas.FixedLaws.{channels_kept, executed_fixed}
use Rattle.network_steps.specs.Steps.{name_at, without_message, posted}
use Rattle.law_nets.specs.Stops.{IsStoppedHere, arrived, StandsAt}
use Rattle.chain_state.specs.declared.state.ChainState.{ChainState}
use Rattle.chain_state.specs.PartOf.{part_of}
use Rattle.chain_net.specs.Links.{channels_of_state}
use Rattle.chain_net.specs.Passing.{AreChanged, IsPassed, IsPassStopped}
use Rattle.chain_net.proofs.Shipments.{abandoned_said}
use Rattle.chain_net.proofs.Members.{got_other}
use Rattle.plain_lists.proofs.Lemmas.Facts.{same_some}

-- ---- one chain instead of another that says the same
pub set_channels : (xs : List ChainState) (i : ℕ) (s new : ChainState) → slice_get xs i ≡ Some s → fixed_of (part_of new) ≡ fixed_of (part_of s) → map channels_of_state (slice_set xs i new) ≡ map channels_of_state xs
set_channels [] i s new at same = refl
set_channels (z ∷ zs) zero s new at same = ap (λ (cs : List Channel). cs ∷ map channels_of_state zs) (ap (λ (x : Fixed). x.channels) same ∙ ap channels_of_state (sym (same_some z s at)))
set_channels (z ∷ zs) (suc i) s new at same = ap (λ (css : List (List Channel)). channels_of_state z ∷ css) (set_channels zs i s new at same)

-- ---- local executions
pub run_fixed : (rules : ChainRules) (account : List ℕ) (program : List Instruction) (p now : ChainPart) (r : Result Outcome AllocError)
    → OnOk r (now ≡ (acted rules (caller account) rules.limit program (begun p.site.chain Nothing p)).part) → OnErr r (IsStoppedHere rules account program p now) → fixed_of now ≡ fixed_of p
run_fixed rules account program p now (Ok o) ran stopped = ap fixed_of ran ∙ executed_fixed rules (caller account) rules.limit program (begun p.site.chain Nothing p)
run_fixed rules account program p now (Err e) ran stopped = ap fixed_of stopped.2 ∙ abandoned_said rules (caller account) rules.limit program (begun p.site.chain Nothing p) stopped.0 stopped.1

-- ---- claims
pub answer_fixed : (refusal : Option XcmError) (number : ℕ) (to : ChainId) (program : List Instruction) (p now : ChainPart) (r : Result ℕ HostFault) → AnswersOrRefuses refusal number (posted to program p) p r now → fixed_of now ≡ fixed_of p
answer_fixed refusal number to program p now (Ok n) h =
    ap fixed_of h.2 ∙ ap (λ (cs : List Channel). record (fixed_of p) { channels = cs }) (channels_kept (leads_to to) (with_waiting program Nothing) (λ c. refl) p.channels)
answer_fixed refusal number to program p now (Err (Xcm e)) h = ap fixed_of h.1
answer_fixed refusal number to program p now (Err Memory) h = ap fixed_of h

-- ---- deliveries
pub popped_fixed : (to : ChainId) (p : ChainPart) → fixed_of (without_message to p) ≡ fixed_of p
popped_fixed to p = ap (λ (cs : List Channel). record (fixed_of p) { channels = cs }) (channels_kept (leads_to to) without_oldest (λ c. refl) p.channels)

arrived_fixed : (from : ChainId) (p : ChainPart) (message : Waiting) → fixed_of (arrived from p message) ≡ fixed_of p
unfolding told
arrived_fixed from p message = refl

module _ (rules : ChainRules) (from : ChainId) (message : Waiting) where
  abbrev ran : ChainPart → ChainPart
  ran p = (executed rules (name_at p.site.chain from) no_weight message.program (arrived from p message)).1

  ran_fixed : (p : ChainPart) → fixed_of (ran p) ≡ fixed_of p
  ran_fixed p = executed_fixed rules (name_at p.site.chain from) no_weight message.program (arrived from p message) ∙ arrived_fixed from p message

  stopped_fixed : (p q : ChainPart) → IsAbandoned rules (name_at p.site.chain from) no_weight message.program (arrived from p message) q → fixed_of q ≡ fixed_of p
  stopped_fixed p q h = abandoned_said rules (name_at p.site.chain from) no_weight message.program (arrived from p message) q h ∙ arrived_fixed from p message

  stands_fixed : (p q : ChainPart) → StandsAt rules from message p q → fixed_of q ≡ fixed_of p
  stands_fixed p q s =
      ⊎_elim (λ (e : q ≡ begun from message.cargo p). ap fixed_of e)
      (⊎_elim (λ (h : IsAbandoned rules (name_at p.site.chain from) no_weight message.program (arrived from p message) q). stopped_fixed p q h)
      (λ (e : q ≡ ran p). ap fixed_of {x = q} {y = ran p} e ∙ ran_fixed p)) s

  module _ (i j : ℕ) (ys zs : List ChainState) (apart : i ≡ j → ⊥) where
    both_said : (h : AreChanged i j ys zs) → fixed_of (part_of h.new_sender) ≡ fixed_of (part_of h.old_sender) → fixed_of (part_of h.new_receiver) ≡ fixed_of (part_of h.old_receiver) → map channels_of_state zs ≡ map channels_of_state ys
    both_said h sender receiver =
        ap (map channels_of_state) h.changed
        ∙ set_channels (slice_set ys i h.new_sender) j h.old_receiver h.new_receiver (got_other ys i j h.new_sender (λ e. apart (sym e)) ∙ h.is_receiver) receiver
        ∙ set_channels ys i h.old_sender h.new_sender h.is_sender sender

    pub passed_channels : (r : Result Outcome AllocError) → IfOk r (λ o. IsPassed rules from message i j o ys zs) → OnErr r (IsPassStopped rules from message i j ys zs) → map channels_of_state zs ≡ map channels_of_state ys
    passed_channels (Ok o) h k = both_said h.both (ap fixed_of h.sender_is) (ap fixed_of h.receiver_is ∙ ran_fixed (part_of h.both.old_receiver))
    passed_channels (Err e) h k =
        both_said k.both (ap fixed_of k.sender_is) (ap fixed_of k.stopped.2 ∙ stands_fixed (part_of k.both.old_receiver) k.stopped.0 k.stopped.1)
