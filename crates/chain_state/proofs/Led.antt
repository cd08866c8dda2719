-- The channel that leads to a location, among the queues and among what they mean.
use Rattle.std.proofs.Common.{◌≡◌, ℕ, ◌++◌, true, false, List, [], ◌∷◌, length, sym, ap, ◌∙◌, true≢false}
use Rattle.std.specs.Prelude.{Option, None, Some, is_ok}
use Rattle.std.specs.List.{find}
use Rattle.std.specs.Option.{option_map, option_map_or}
use Rattle.plain_lists.specs.Firsts.{change_first}
use Rattle.locations.specs.declared.relative.Location.{Location}
use Rattle.locations.proofs.Lemmas.OrderLaws.{location_decides}
use Rattle.chain_ids.specs.declared.chain.ChainId.{ChainId}
use Rattle.chain_ids.specs.Chains.{same_chain}
use Rattle.chain_ids.proofs.Lemmas.{same_chain_told, same_chain_itself}
use Rattle.trust_tables.specs.Chains.{location_of}
use Rattle.trust_tables.proofs.Lemmas.ChainLaws.{chain_of_one}
use Rattle.trust_tables.specs.Trust.{has_location, is_location_of}
use Rattle.xcm_program.specs.declared.instruction.Instruction.{Instruction}
use Rattle.channel_parts.specs.declared.cargo.Cargo.{Cargo}
use Rattle.channel_parts.specs.Channels.{Outgoing, with_waiting}
use Rattle.versioned_xcm.specs.Reading.{message_of}
use Rattle.chain_queues.specs.Decoded.{decodes, program_read}
use Rattle.chain_queues.specs.Queues as queues
use Rattle.chain_queues.specs.Queues.{is_spelled_for, push_refusal, pushed}
use Rattle.exec_base.specs.declared.event.Event.{Event}
use Rattle.exec_base.specs.Part.{ChainPart}
use Rattle.exec_base.specs.Sending.{leads_to_location, channel_to_location, number_to, sent_event, sent}
use Rattle.chain_state.specs.Sends.{IsAcceptedByChannel}
use Rattle.chain_state.proofs.Found.{found_passes}
use Rattle.plain_lists.proofs.Lemmas.Facts.{same_bools}

-- ---- one location is of one chain
named_some : (o : Option Location) (l : Location) → has_location o l ≡ true → o ≡ Some l
named_some None l h = absurd (true≢false (sym h))
named_some (Some named) l h = ap Some ((location_decides named l).0 h)

-- the location that is one chain's leads just to that chain
pub leads_same : (p : ChainPart) (dest : Location) (to : ChainId) → is_location_of p.site.chain to dest ≡ true → (c : Outgoing) → leads_to_location p dest c ≡ queues.leads_to to c
leads_same p dest to at c =
    same_bools (leads_to_location p dest c) (queues.leads_to to c)
    (λ leads. ap (λ x. same_chain x to) (chain_of_one p.site.chain c.channel.to to dest (named_some (location_of p.site.chain c.channel.to) dest leads) (named_some (location_of p.site.chain to) dest at)) ∙ same_chain_itself to)
    (λ same. ap (λ x. is_location_of p.site.chain x dest) (same_chain_told c.channel.to to same) ∙ at)

pub taken_leads : (p : ChainPart) (dest : Location) (program : List Instruction) (to : ChainId) (bytes : List ℕ) → IsAcceptedByChannel p dest program to bytes → is_location_of p.site.chain to dest ≡ true
taken_leads p dest program to bytes t = ap (λ x. is_location_of p.site.chain x dest) (sym t.accepted.leads) ∙ found_passes (leads_to_location p dest) p.channels t.channel t.found

pub same_channel : (p : ChainPart) (dest : Location) (program : List Instruction) (to : ChainId) (bytes : List ℕ) → IsAcceptedByChannel p dest program to bytes → queues.channel_to to p.channels ≡ channel_to_location p dest
same_channel p dest program to bytes t = λ i. find (λ c. sym (leads_same p dest to (taken_leads p dest program to bytes t) c) i) p.channels

-- what posting needs
pub taken_free : (p : ChainPart) (dest : Location) (program : List Instruction) (to : ChainId) (bytes : List ℕ) → IsAcceptedByChannel p dest program to bytes → push_refusal (length bytes) (queues.channel_to to p.channels) ≡ None
taken_free p dest program to bytes t = ap (push_refusal (length bytes)) (same_channel p dest program to bytes t ∙ t.found) ∙ t.accepted.free

pub taken_spelled : (p : ChainPart) (dest : Location) (program : List Instruction) (to : ChainId) (bytes : List ℕ) → IsAcceptedByChannel p dest program to bytes → is_spelled_for (queues.channel_to to p.channels) bytes ≡ true
taken_spelled p dest program to bytes t = ap (λ o. is_spelled_for o bytes) (same_channel p dest program to bytes t ∙ t.found) ∙ t.accepted.spelled

pub taken_decodes : (p : ChainPart) (dest : Location) (program : List Instruction) (to : ChainId) (bytes : List ℕ) → IsAcceptedByChannel p dest program to bytes → decodes bytes ≡ true
taken_decodes p dest program to bytes t = ap is_ok t.accepted.meaning

-- what it leaves
next_is : (c : Outgoing) (n : ℕ) → option_map (λ (o : Outgoing). o.next) (Some c) ≡ Some n → n ≡ c.next
next_is c n is = cc

pub number_is : (p : ChainPart) (dest : Location) (program : List Instruction) (to : ChainId) (bytes : List ℕ) (n : ℕ) → IsAcceptedByChannel p dest program to bytes → option_map (λ (o : Outgoing). o.next) (queues.channel_to to p.channels) ≡ Some n → n ≡ number_to p dest
unfolding number_to
number_is p dest program to bytes n t is =
    next_is t.channel n (sym (ap (option_map (λ (o : Outgoing). o.next)) (same_channel p dest program to bytes t ∙ t.found)) ∙ is)
    ∙ sym (ap (λ o. option_map_or (λ (c : Outgoing). c.next) o 0) t.found)

pub sent_is : (p : ChainPart) (dest : Location) (program : List Instruction) (to : ChainId) (bytes : List ℕ) (cargo : Cargo) (n : ℕ) → IsAcceptedByChannel p dest program to bytes
    → option_map (λ (o : Outgoing). o.next) (queues.channel_to to p.channels) ≡ Some n
    → record p { channels = pushed to (program_read (message_of bytes)) cargo p.channels; pending_events = p.pending_events ++ Event.Sent p.site.chain to n ∷ [] } ≡ sent p dest program cargo
unfolding sent
sent_is p dest program to bytes cargo n t is =
    let next = next_is t.channel n (sym (ap (option_map (λ (o : Outgoing). o.next)) (same_channel p dest program to bytes t ∙ t.found)) ∙ is) in
    let channels : pushed to (program_read (message_of bytes)) cargo p.channels ≡ change_first (leads_to_location p dest) (with_waiting program cargo) p.channels =
    λ i. change_first (λ c. sym (leads_same p dest to (taken_leads p dest program to bytes t) c) i) (with_waiting (ap program_read t.accepted.meaning i) cargo) p.channels in
    let told : Event.Sent p.site.chain to n ∷ [] ≡ sent_event p (channel_to_location p dest) =
    (λ i. Event.Sent p.site.chain (sym t.accepted.leads i) (next i) ∷ []) ∙ sym (ap (sent_event p) t.found) in
    λ i. record p { channels = channels i; pending_events = p.pending_events ++ told i }
