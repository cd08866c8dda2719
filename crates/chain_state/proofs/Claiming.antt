-- A claim that a channel takes.
use Rattle.std.proofs.Common.{◌≡◌, ℕ, Vec, Global, true, List, length, sym, ap, ◌∙◌, subst}
use Rattle.std.specs.Prelude.{Option, None, Some, Result, Ok, Err, MatchResult, is_ok}
use Rattle.std.specs.Option.{option_map, option_map_or}
use Rattle.chain_ids.specs.declared.chain.ChainId.{ChainId}
use Rattle.xcm_program.specs.declared.instruction.Instruction.{Instruction}
use Rattle.channel_parts.specs.Channels.{Outgoing}
use Rattle.versioned_xcm.specs.Reading.{message_of}
use Rattle.chain_queues.specs.Decoded.{decodes, program_read}
use Rattle.chain_queues.specs.Queues.{is_spelled_for, push_refusal}
use Rattle.exec_base.specs.declared.faults.HostFault.{HostFault}
use Rattle.exec_base.specs.Sending.{channel_refusal}
use Rattle.chain_state.specs.Sends.{IsAccepted, IsSendFault}
use Rattle.chain_state.specs.Claims.{IsClaimTaken}

module _ (there : Option Outgoing) (program : List Instruction) where
  taken_at : (c : Outgoing) (to : ChainId) (bytes : List ℕ) → there ≡ Some c → IsAccepted c program to bytes → IsClaimTaken there program bytes
  taken_at c to bytes found a = record { channel = c; found = found; accepted = subst (λ t. IsAccepted c program t bytes) (sym a.leads) a }

  pub taken_ok : (c : Outgoing) (result : Result (ChainId × Vec ℕ Global) HostFault) (to : ChainId) (bytes : Vec ℕ Global) → there ≡ Some c → result ≡ Ok (to, bytes)
      → MatchResult result (λ ready. IsAccepted c program ready.0 ready.1.items) (IsSendFault (channel_refusal (Some c) true program)) → IsClaimTaken there program bytes.items
  taken_ok c result to bytes found e h = taken_at c to bytes.items found (subst (λ (r : Result (ChainId × Vec ℕ Global) HostFault). MatchResult r (λ ready. IsAccepted c program ready.0 ready.1.items) (IsSendFault (channel_refusal (Some c) true program))) e h)

  pub taken_err : (c : Outgoing) (result : Result (ChainId × Vec ℕ Global) HostFault) (fault : HostFault) → there ≡ Some c → result ≡ Err fault
      → MatchResult result (λ ready. IsAccepted c program ready.0 ready.1.items) (IsSendFault (channel_refusal (Some c) true program)) → IsSendFault (channel_refusal there true program) fault
  taken_err c result fault found e h = subst (λ o. IsSendFault (channel_refusal o true program) fault) (sym found) (subst (λ (r : Result (ChainId × Vec ℕ Global) HostFault). MatchResult r (λ ready. IsAccepted c program ready.0 ready.1.items) (IsSendFault (channel_refusal (Some c) true program))) e h)

  module _ (bytes : List ℕ) (t : IsClaimTaken there program bytes) where
    pub claim_decodes : decodes bytes ≡ true
    claim_decodes = ap is_ok t.accepted.meaning

    pub claim_spelled : is_spelled_for there bytes ≡ true
    claim_spelled = ap (λ o. is_spelled_for o bytes) t.found ∙ t.accepted.spelled

    pub claim_free : push_refusal (length bytes) there ≡ None
    claim_free = ap (push_refusal (length bytes)) t.found ∙ t.accepted.free

    pub claim_unrefused : channel_refusal there true program ≡ None
    claim_unrefused = ap (λ o. channel_refusal o true program) t.found ∙ t.accepted.unrefused

    pub claim_read : program_read (message_of bytes) ≡ program
    claim_read = ap program_read t.accepted.meaning

  pub claim_number : (number : ℕ) → option_map (λ (c : Outgoing). c.next) there ≡ Some number → number ≡ option_map_or (λ (c : Outgoing). c.next) there 0
  claim_number number e = numbered there e
    where
      numbered : (o : Option Outgoing) → option_map (λ (c : Outgoing). c.next) o ≡ Some number → number ≡ option_map_or (λ (c : Outgoing). c.next) o 0
      numbered None h = absurd cc
      numbered (Some c) h = cc
