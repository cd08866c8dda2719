-- A claim, by its cases.
use Rattle.std.proofs.Common.{◌≡◌, ℕ, zero, suc, Bool, true, false, List, [], ◌∷◌, Option, Some, None, Result, Ok, Err, refl, sym, ap, ◌∙◌, subst}
use Rattle.std.specs.Prelude.{if◌then◌else◌, is_some, slice_get, slice_set}
use Rattle.std.specs.Option.{option_map_or}
use Rattle.trust_tables.specs.Trust.{listing}
use Rattle.chain_ids.specs.declared.chain.ChainId.{ChainId}
use Rattle.operands.specs.declared.error.XcmError.{XcmError}
use Rattle.xcm_program.specs.declared.instruction.Instruction.{Instruction}
use Rattle.versioned_xcm.specs.declared.faults.MessageFault.{MessageFault}
use Rattle.versioned_xcm.specs.Reading.{message_of}
use Rattle.channel_parts.specs.declared.channel.Channel.{Channel}
use Rattle.channel_parts.specs.declared.cargo.Cargo.TheVariants.{Nothing}
use Rattle.channel_parts.specs.Channels.{Outgoing, with_waiting}
use Rattle.chain_queues.specs.Queues.{leads_to}
use Rattle.exec_base.specs.declared.faults.HostFault.{HostFault}
use Rattle.exec_base.specs.declared.faults.HostFault.TheVariants.{Xcm, Memory}
use Rattle.exec_base.specs.Answers.{AnswersOrRefuses}
use Rattle.exec_base.specs.Part.{ChainPart}
use Rattle.exec_base.specs.Sending.{channel_refusal}
use Rattle.exec_rules.specs.declared.rules.ChainRules.{ChainRules}
use Rattle.network_steps.specs.declared.step_result.StepResult.{StepResult}
use Rattle.network_steps.specs.Worlds.{Member, World, with_part, unchanged}
use Rattle.network_steps.specs.Fixed.{fixed_of}
use Rattle.network_steps.proofs.Lemmas.FixedLaws.{channels_kept}
use Rattle.network_steps.specs.Steps.{is_claim, posted, posting, claim_by, claim_on}
use Rattle.chain_state.specs.declared.state.ChainState.{ChainState}
use Rattle.chain_state.specs.PartOf.{part_of}
use Rattle.chain_net.specs.Chains.{member_in, world_in}
use Rattle.chain_net.specs.Sound.{IsBetweenSteps}
use Rattle.chain_net.proofs.Shipments.{changed_listed, waiting_listed}
use Rattle.chain_net.proofs.Runs.{same_leads}
use Rattle.chain_net.proofs.Members.{member_at, set_member}

module _ (w : World) (i : ℕ) (s : Member) (to : ChainId) (bytes : List ℕ) where
  pub on_fault : (o : Option Outgoing) (fault : MessageFault) → is_some o ≡ true → message_of bytes ≡ Err fault → claim_on w i s to o bytes ≡ unchanged (StepResult.Message fault) w
  on_fault None fault some read = absurd cc
  on_fault (Some c) fault some read = ap (claim_by w i s to c) read

  pub on_other : (o : Option Outgoing) (program : List Instruction) → is_some o ≡ true → message_of bytes ≡ Ok program → is_claim program ≡ false → claim_on w i s to o bytes ≡ unchanged StepResult.NotAClaim w
  on_other None program some read other = absurd cc
  on_other (Some c) program some read other =
      ap (claim_by w i s to c) read ∙ ap (λ (b : Bool). if b then posting w i s to c program (channel_refusal (Some c) true program) else unchanged StepResult.NotAClaim w) other

  on_claim : (c : Outgoing) (program : List Instruction) (refusal : Option XcmError) → message_of bytes ≡ Ok program → is_claim program ≡ true → channel_refusal (Some c) true program ≡ refusal → claim_on w i s to (Some c) bytes ≡ posting w i s to c program refusal
  on_claim c program refusal read is refused =
      ap (claim_by w i s to c) read ∙ ap (λ (b : Bool). if b then posting w i s to c program (channel_refusal (Some c) true program) else unchanged StepResult.NotAClaim w) is
      ∙ ap (posting w i s to c program) refused

  pub on_refused : (o : Option Outgoing) (program : List Instruction) (e : XcmError) → is_some o ≡ true → message_of bytes ≡ Ok program → is_claim program ≡ true → channel_refusal o true program ≡ Some e → claim_on w i s to o bytes ≡ unchanged (StepResult.Unsent e) w
  on_refused None program e some read is refused = absurd cc
  on_refused (Some c) program e some read is refused = on_claim c program (Some e) read is refused

  pub on_posted : (o : Option Outgoing) (program : List Instruction) (number : ℕ) → is_some o ≡ true → message_of bytes ≡ Ok program → is_claim program ≡ true → channel_refusal o true program ≡ None → number ≡ option_map_or (λ (c : Outgoing). c.next) o 0
      → claim_on w i s to o bytes ≡ record { answer = StepResult.Sent number; trace = []; world = slice_set w i (with_part (posted to program s.part) s) }
  on_posted None program number some read is refused same = absurd cc
  on_posted (Some c) program number some read is refused same =
      on_claim c program None read is refused ∙ (λ k. record { answer = StepResult.Sent (sym same k); trace = []; world = slice_set w i (with_part (posted to program s.part) s) })

-- ---- what posting leaves of the sender
pub between_posted : (to : ChainId) (program : List Instruction) (p : ChainPart) → IsBetweenSteps p → IsBetweenSteps (posted to program p)
between_posted to program p h = record {
  rest = record { order = record { traps = h.rest.order.traps; rates = h.rest.order.rates; paid = h.rest.order.paid; pools = h.rest.order.pools; unparked = h.rest.order.unparked }; slot = h.rest.slot };
  landed = h.landed;
  told = h.told;
  shipped = changed_listed (listing p.rows) (leads_to to) (with_waiting program Nothing) (waiting_listed (listing p.rows) program Nothing tt) p.channels h.shipped;
  apart = same_leads p (posted to program p) (ap (λ (cs : List Channel). record (fixed_of p) { channels = cs }) (channels_kept (leads_to to) (with_waiting program Nothing) (λ c. refl) p.channels)) ∙ h.apart;
}

pub answer_chain : (refusal : Option XcmError) (number : ℕ) (to : ChainId) (program : List Instruction) (p now : ChainPart) (r : Result ℕ HostFault) → AnswersOrRefuses refusal number (posted to program p) p r now → now.site.chain ≡ p.site.chain
answer_chain refusal number to program p now (Ok n) h = ap (λ (x : ChainPart). x.site.chain) h.2
answer_chain refusal number to program p now (Err (Xcm e)) h = ap (λ (x : ChainPart). x.site.chain) h.1
answer_chain refusal number to program p now (Err Memory) h = ap (λ (x : ChainPart). x.site.chain) h

set_itself : (w : World) (i : ℕ) (m : Member) → slice_get w i ≡ Some m → slice_set w i m ≡ w
set_itself [] i m at = refl
set_itself (x ∷ xs) zero m at = let same : x ≡ m = cc in ap (λ (y : Member). y ∷ xs) (sym same)
set_itself (x ∷ xs) (suc i) m at = ap (λ ys. x ∷ ys) (set_itself xs i m at)

-- a chain with the same part
pub same_world : (rs : List ChainRules) (ss : List ChainState) (i : ℕ) (r : ChainRules) (s new : ChainState) → slice_get rs i ≡ Some r → slice_get ss i ≡ Some s → part_of new ≡ part_of s → world_in rs (slice_set ss i new) ≡ world_in rs ss
same_world rs ss i r s new at_r at_s same =
    set_member rs ss i r new at_r ∙ ap (λ (p : ChainPart). slice_set (world_in rs ss) i (record { rules = r; part = p })) same ∙ set_itself (world_in rs ss) i (member_in r s) (member_at rs ss i r s at_r at_s)

pub changed_world : (rs : List ChainRules) (ss : List ChainState) (i : ℕ) (r : ChainRules) (s new : ChainState) (p : ChainPart) → slice_get rs i ≡ Some r → part_of new ≡ p → world_in rs (slice_set ss i new) ≡ slice_set (world_in rs ss) i (with_part p (member_in r s))
changed_world rs ss i r s new p at_r same = set_member rs ss i r new at_r ∙ ap (λ (q : ChainPart). slice_set (world_in rs ss) i (record { rules = r; part = q })) same

pub xcm_told : (refusal : Option XcmError) (number : ℕ) (to : ChainId) (program : List Instruction) (p now : ChainPart) (r : Result ℕ HostFault) (f : HostFault) (e : XcmError) → AnswersOrRefuses refusal number (posted to program p) p r now → r ≡ Err f → f ≡ Xcm e
    → (refusal ≡ Some e) × (now ≡ p)
xcm_told refusal number to program p now r f e h is fault = subst (λ (q : Result ℕ HostFault). AnswersOrRefuses refusal number (posted to program p) p q now) (is ∙ ap Err fault) h

pub memory_told : (refusal : Option XcmError) (number : ℕ) (to : ChainId) (program : List Instruction) (p now : ChainPart) (r : Result ℕ HostFault) (f : HostFault) → AnswersOrRefuses refusal number (posted to program p) p r now → r ≡ Err f → f ≡ Memory → now ≡ p
memory_told refusal number to program p now r f h is fault = subst (λ (q : Result ℕ HostFault). AnswersOrRefuses refusal number (posted to program p) p q now) (is ∙ ap Err fault) h
